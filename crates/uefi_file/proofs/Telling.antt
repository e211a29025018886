-- What a result tells: one that a volume answered, one that `?` left with, and one that an error was made for.
use Rattle.std.proofs.Common.{◌≡◌, ℕ, Bool, Some, None, Ok, Err, Option, Result, MatchResult, sym, refl, ap, ◌∙◌}
use Rattle.std.proofs.lemmas.Option.{same_Some}
use Rattle.std.specs.Option.{option_eq, option_map, ok_or}
use Rattle.std.specs.Result.{IsOkAnd, IsErrAnd, result_eq, result_map_both}
use Rattle.uefi_result.specs.StatusCodes.{unsupported}
use Rattle.uefi_result.specs.declared.error.Error.{Error}
use Rattle.uefi_result.specs.Errors.{told, told_err}
use Rattle.uefi_info.specs.declared.file_info.FileInfo.{FileInfo}
use Rattle.volume.specs.Answers.{numbered, settled}
use Rattle.uefi_file.specs.Boxes.{expected_in, end_in, status_in}
use Rattle.uefi_file.specs.Handles.{by_status, number_in, done_in, written_in}
use Rattle.uefi_file.specs.Infos.{some_in}

pub number_told : (r : Result ℕ (Error ℕ)) → number_in (numbered r) ≡ by_status r
number_told (Ok n) = refl
number_told (Err e) = refl

pub done_told : (r : Result (Unit {0}) (Error ℕ)) → done_in (settled r) ≡ by_status r
done_told (Ok x) = refl
done_told (Err e) = refl

pub written_told : (r : Result (Unit {0}) (Error ℕ)) → written_in (settled r) ≡ told_err r
written_told (Ok x) = refl
written_told (Err e) = refl

pub status_told : (r : Result FileInfo (Error (Option ℕ))) → status_in (told_err r) ≡ by_status r
status_told (Ok h) = refl
status_told (Err e) = refl

pub end_told : (f : FileInfo → FileInfo → Bool) (g : Error (Option ℕ) → Error (Option ℕ) → Bool) (r : Result (Option FileInfo) (Error (Option ℕ))) → result_eq (option_eq f) g r (Ok None) ≡ end_in (told_err r)
end_told f g (Ok None) = refl
end_told f g (Ok (Some h)) = refl
end_told f g (Err e) = refl

pub left_with : {X E : Type 0} (r : Result X E) (e : E) → IsErrAnd r (λ d. d ≡ e) → r ≡ Err e
left_with (Ok x) e h = absurd h
left_with (Err d) e h = ap Err h

module _ {X E : Type 0} (e : E) where
  pub had_some : (o : Option X) (x : X) → Ok x ≡ ok_or o e → o ≡ Some x
  had_some None x h = cc
  had_some (Some y) x h = cc

  pub had_none : (o : Option X) (d : E) → Err d ≡ ok_or o e → (o ≡ None) × (d ≡ e)
  had_none None d h = (refl, cc)
  had_none (Some y) d h = cc

pub unwrapped : {D : Type 0} (o : Option (Error D)) (e : Error D) (x : ℕ × D) → o ≡ Some e → option_map (λ e. (e.status.0, e.data)) o ≡ Some x → told e ≡ x
unwrapped None e x f h = cc
unwrapped (Some d) e x f h = ap told (sym (same_Some d e f)) ∙ same_Some (told d) x h

-- what `map` made of one
pub some_told : {X E T : Type 0} (t : E → T) (r : Result X E) (q : Result (Option X) E) → MatchResult r (λ x. IsOkAnd q (λ y. y ≡ Some x)) (λ e. q ≡ Err e)
    → some_in (result_map_both (λ x. x) t r) ≡ result_map_both (λ x. x) t q
some_told t (Ok x) (Ok y) h = ap Ok (sym h)
some_told t (Ok x) (Err e) h = absurd h
some_told t (Err e) q h = rw h refl

-- an entry that has to be there
pub expected_told : (o : Option FileInfo) (e : Error (Option ℕ)) (q : Result FileInfo (Error (Option ℕ))) → told e ≡ (unsupported, None) → q ≡ ok_or o e → expected_in (Ok o) ≡ told_err q
expected_told None e q h f = rw f (ap Err (sym h))
expected_told (Some x) e q h f = rw f refl
