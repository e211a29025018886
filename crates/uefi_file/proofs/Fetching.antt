-- Runs that fetch a record into a buffer, in one call and in two.
use Rattle.std.proofs.Common.{◌≡◌, ℕ, List, [], ◌++◌, length, take, drop, Some, None, Ok, Err, Option, Result, MatchResult, sym, refl, ap, ◌∙◌}
use Rattle.uefi_result.specs.StatusCodes.{out_of_resources}
use Rattle.uefi_result.specs.declared.error.Error.{Error}
use Rattle.uefi_result.specs.Errors.{told}
use Rattle.volume.specs.Answers.{delivered, filled}
use Rattle.volume.specs.Calls.{Call, Step}
use Rattle.volume.specs.State.{State}
use Rattle.volume.specs.Scripts.{Script, Runs, done, ask}
use Rattle.volume.proofs.Running.{runs_then}
use Rattle.uefi_file.specs.Boxes.{size_in, status_in, padded_in, placed, sized, boxing}
use Rattle.uefi_info.specs.declared.file_info.FileInfo.{FileInfo}
use Rattle.uefi_file.specs.Infos.{Fetched, needed, record_of, record_in}

-- by what `map_err` made of a call's answer
module _ {X : Type 0} (record_at : List ℕ → ℕ → Result X (ℕ × Option ℕ)) where
  record_ok : (r : Result ℕ (Error ℕ)) (after : List ℕ) (n : ℕ) (x : Result X (ℕ × Option ℕ)) → MatchResult r (λ m. ◌≡◌ {A = Result ℕ (Error (Option ℕ))} (Ok n) (Ok m)) (λ e. ⊥) → record_at after n ≡ x
      → record_of record_at (delivered r after) after ≡ x
  record_ok (Ok m) after n x h e = cc
  record_ok (Err e) after n x h f = absurd h

  record_err : (r : Result ℕ (Error ℕ)) (after : List ℕ) (d : Error (Option ℕ)) → MatchResult r (λ m. Err d ≡ Ok m) (λ e. (e.status.0, needed e.status.0 e.data) ≡ told d)
      → record_of record_at (delivered r after) after ≡ Err (told d)
  record_err (Ok m) after d h = cc
  record_err (Err e) after d h = ap Err h

  module _ (q : Call) (r : Result ℕ (Error ℕ)) (old after : List ℕ) (v w : State) (st : Step v q (delivered r after) w) (fills : after ≡ filled old (delivered r after)) where
    fetched : (x : Result X (ℕ × Option ℕ)) → record_of record_at (delivered r after) after ≡ x → Runs (ask q (λ a. done (record_in record_at old a))) v (x, after) w
    fetched x e = (
      delivered r after,
      w,
      st,
      (ap (λ z. (record_of record_at (delivered r after) z, z)) (sym fills) ∙ ap (λ y. (y, after)) e, refl),
    )

    pub fetched_ok : (n : ℕ) (x : Result X (ℕ × Option ℕ)) → MatchResult r (λ m. ◌≡◌ {A = Result ℕ (Error (Option ℕ))} (Ok n) (Ok m)) (λ e. ⊥) → record_at after n ≡ x
        → Runs (ask q (λ a. done (record_in record_at old a))) v (x, after) w
    fetched_ok n x h e = fetched x (record_ok r after n x h e)

    pub fetched_err : (d : Error (Option ℕ)) → MatchResult r (λ m. Err d ≡ Ok m) (λ e. (e.status.0, needed e.status.0 e.data) ≡ told d)
        → Runs (ask q (λ a. done (record_in record_at old a))) v (Err (told d), after) w
    fetched_err d h = fetched (Err (told d)) (record_err r after d h)

-- by what the first of two fetches told
module _ (fetch : List ℕ → Script (Fetched FileInfo)) (old : List ℕ) (v u : State) (x : Fetched FileInfo) (first : Runs (fetch []) v x u) where
  pub no_size : (s : ℕ) → size_in x.0 ≡ Err s → Runs (boxing fetch old) v (Err s, old) u
  no_size s e = runs_then (fetch []) (sized fetch old) v u u x (Err s, old) first (rw e (refl, refl))

  pub no_room : (n : ℕ) → size_in x.0 ≡ Ok n → padded_in n (length old) ≡ None → Runs (boxing fetch old) v (Err out_of_resources, old) u
  no_room n e f = runs_then (fetch []) (sized fetch old) v u u x (Err out_of_resources, old) first (rw (e, f) (refl, refl))

  pub boxed_in : (n m : ℕ) (y : Fetched FileInfo) (r : Result _ ℕ) (w : State) → size_in x.0 ≡ Ok n → padded_in n (length old) ≡ Some m → Runs (fetch (take m old)) u y w → length y.1 ≡ m → status_in y.0 ≡ r
      → Runs (boxing fetch old) v (r, y.1 ++ drop m old) w
  boxed_in n m y r w e f second l g =
      runs_then (fetch []) (sized fetch old) v u w x (r, y.1 ++ drop m old) first
      (rw (e, f) (runs_then (fetch (take m old)) (placed old) u w w y (r, y.1 ++ drop m old) second (ap (λ k. (status_in y.0, y.1 ++ drop k old)) l ∙ ap (λ z. (z, y.1 ++ drop m old)) g, refl)))
