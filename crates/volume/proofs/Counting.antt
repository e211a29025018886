-- How many numbers of a table hold something, as it changes.
use Rattle.std.proofs.Common.{◌≡◌, ℕ, zero, suc, ◌+◌, ◌-◌, Some, None, Option, sym, refl, ◌∙◌, subst, inl, inr, add-one, arith}
use Rattle.std.proofs.lemmas.Bool.{cases_eq}
use Rattle.volume.specs.Tree.{put, Counts}
use Rattle.volume.proofs.Puts.{none_some, put_same, put_other, put_over, put_swap_none, put_back}

module _ {A : Type 0} where
  more_by : (f : ℕ → Option A) (k : ℕ) (x : A) (c : ℕ) → f k ≡ None → Counts f c → Counts (put f k (Some x)) (suc c)
  more_by f k x c e h = (k, x, put_same f k (Some x), subst (λ (g : ℕ → Option A). Counts g c) (sym (put_back f k (Some x) e)) h)

  pub counts_more : (f : ℕ → Option A) (k : ℕ) (x : A) (c : ℕ) → f k ≡ None → Counts f c → Counts (put f k (Some x)) (c + 1)
  counts_more f k x c e h = subst (Counts (put f k (Some x))) (sym (add-one c)) (more_by f k x c e h)

  less_by : (f : ℕ → Option A) (k : ℕ) (x : A) (c : ℕ) → f k ≡ Some x → Counts f c → (d : ℕ) × (c ≡ suc d) × Counts (put f k None) d
  less_by f k x zero e h = absurd (none_some (h k) e)
  less_by f k x (suc c) e (j, y, q, rest) = elim (cases_eq j k) [
    | inl s ↦ (c, refl, subst (λ (i : ℕ). Counts (put f i None) c) s rest)
    | inr s ↦ deeper s (less_by (put f j None) k x c (put_other f j k None (λ z. s (sym z)) ∙ e) rest)
  ]
    where
      deeper : (j ≡ k → ⊥) → (d : ℕ) × (c ≡ suc d) × Counts (put (put f j None) k None) d → (d : ℕ) × (suc c ≡ suc d) × Counts (put f k None) d
      deeper s (d, z, g) = (c, refl, subst (Counts (put f k None)) (sym z) (j, y, put_other f k j None s ∙ q, subst (λ (u : ℕ → Option A). Counts u d) (put_swap_none f j k) g))

  pub counts_less : (f : ℕ → Option A) (k : ℕ) (x : A) (c : ℕ) → f k ≡ Some x → Counts f c → Counts (put f k None) (c - 1)
  counts_less f k x c e h =
      let (d, z, g) = less_by f k x c e h in
      subst (Counts (put f k None)) (omega (arith, z)) g

  pub counts_same : (f : ℕ → Option A) (k : ℕ) (x y : A) (c : ℕ) → f k ≡ Some x → Counts f c → Counts (put f k (Some y)) c
  counts_same f k x y c e h =
      let (d, z, g) = less_by f k x c e h in
      subst (λ (u : ℕ → Option A). Counts u c) (put_over f k None (Some y))
      (subst (Counts (put (put f k None) k (Some y))) (sym z) (more_by (put f k None) k y d (put_same f k None) g))
