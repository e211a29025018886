-- What the rows of a table stand for is as many as the rows that are taken.
use Rattle.std.proofs.Common.{◌≡◌, ℕ, zero, suc, List, set, Some, None, Option, sym, refl, ◌∙◌, subst, inl, inr, arith}
use Rattle.std.proofs.lemmas.Bool.{cases_eq}
use Rattle.volume.specs.Tree.{put, Counts}
use Rattle.volume.proofs.Puts.{put_same, put_other, none_some}
use Rattle.ram_tables.specs.Tables.{row, count}
use Rattle.ram_tables.proofs.Grids.{row_other, row_cases, count_less, count_some, some_row}

module _ {A B : Type 0} where
  by : (c : ℕ) (xs : List (Option A)) (f : ℕ → Option B) → count xs ≡ c → ((n : ℕ) → row xs n ≡ None → f n ≡ None)
      → ((n : ℕ) (x : A) → row xs n ≡ Some x → (y : B) × (f n ≡ Some y)) → Counts f c
  by zero xs f e none some = λ n. none n (empty n (row xs n) refl)
    where
      empty : (n : ℕ) (o : Option A) → row xs n ≡ o → row xs n ≡ None
      empty n (Some x) q = absurd (omega (arith, count_some xs n x q))
      empty n None q = q
  by (suc c) xs f e none some =
      let (k, x, q) = some_row xs (omega arith) in
      let (y, z) = some k x q in (
        k,
        y,
        z,
        by c (set xs k None) (put f k None) (count_less xs k x q ∙ omega (arith, e))
            (λ n h. elim (cases_eq n k) [
              | inl p ↦ subst (λ (m : ℕ). put f k None m ≡ None) (sym p) (put_same f k None)
              | inr ne ↦ put_other f k n None ne ∙ none n (sym (row_other xs k None n ne) ∙ h)
            ])
            (λ n w h. elim (row_cases xs k None n w h) [
              | inl p ↦ absurd (none_some refl p.1)
              | inr p ↦ (let (v, s) = some n w p.1 in (v, put_other f k n None p.0 ∙ s))
            ]),
      )

  pub counted : (xs : List (Option A)) (f : ℕ → Option B) → ((n : ℕ) → row xs n ≡ None → f n ≡ None)
      → ((n : ℕ) (x : A) → row xs n ≡ Some x → (y : B) × (f n ≡ Some y)) → Counts f (count xs)
  counted xs f = by (count xs) xs f refl

pub counted_rows : {A : Type 0} (xs : List (Option A)) → Counts (row xs) (count xs)
counted_rows xs = counted xs (row xs) (λ n e. e) (λ n x e. (x, e))
