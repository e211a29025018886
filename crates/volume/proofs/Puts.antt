-- A function changed at one place.
use Rattle.std.proofs.Common.{◌≡◌, ℕ, Bool, true, false, cond, eqb, ◌⊎◌, Some, None, Option, sym, refl, ap, ◌∙◌, subst, inl, inr, eq-eqb, eqb-true}
use mathlib.Core.Path.{fun_ext}
use Rattle.std.proofs.lemmas.Bool.{cases_eq, ne_eqb}
use Rattle.volume.specs.Tree.{put}

pub none_some : {A : Type 0} {x : A} {o : Option A} → o ≡ None → o ≡ Some x → ⊥
none_some {A} {x} {o} p q = cc

pub some_same : {A : Type 0} {x y : A} {o : Option A} → o ≡ Some x → o ≡ Some y → x ≡ y
some_same {A} {x} {y} {o} p q = cc

module _ {A : Type 0} where
  over : (b : Bool) (x y z : Option A) → cond b y (cond b x z) ≡ cond b y z
  over true x y z = refl
  over false x y z = refl

  swap : (b c : Bool) (x y z : Option A) → (b ≡ true → c ≡ true → ⊥) → cond c y (cond b x z) ≡ cond b x (cond c y z)
  swap true true x y z h = absurd (h refl refl)
  swap true false x y z h = refl
  swap false true x y z h = refl
  swap false false x y z h = refl

  swap_none : (b c : Bool) (z : Option A) → cond c None (cond b None z) ≡ cond b None (cond c None z)
  swap_none true true z = refl
  swap_none true false z = refl
  swap_none false true z = refl
  swap_none false false z = refl

  back : (b : Bool) (x z : Option A) → (b ≡ true → z ≡ None) → cond b None (cond b x z) ≡ z
  back true x z h = sym (h refl)
  back false x z h = refl

module _ {A : Type 0} (f : ℕ → Option A) where
  pub put_same : (k : ℕ) (x : Option A) → put f k x k ≡ x
  put_same k x = ap (λ (b : Bool). cond b x (f k)) (eq-eqb k k refl)

  pub put_other : (k n : ℕ) (x : Option A) → (n ≡ k → ⊥) → put f k x n ≡ f n
  put_other k n x h = ap (λ (b : Bool). cond b x (f n)) (ne_eqb n k h)

  pub put_cases : (k n : ℕ) (x y : Option A) → put f k x n ≡ y → ((n ≡ k) × (x ≡ y)) ⊎ ((n ≡ k → ⊥) × (f n ≡ y))
  put_cases k n x y e = elim (cases_eq n k) [
    | inl h ↦ inl (h, sym (put_same k x) ∙ subst (λ (m : ℕ). put f k x m ≡ y) h e)
    | inr h ↦ inr (h, sym (put_other k n x h) ∙ e)
  ]

  pub put_over : (k : ℕ) (x y : Option A) → put (put f k x) k y ≡ put f k y
  put_over k x y = fun_ext (λ n. over (eqb n k) x y (f n))

  pub put_swap : (j k : ℕ) (x y : Option A) → (j ≡ k → ⊥) → put (put f j x) k y ≡ put (put f k y) j x
  put_swap j k x y h = fun_ext (λ n. swap (eqb n j) (eqb n k) x y (f n) (λ p q. h (sym (eqb-true n j p) ∙ eqb-true n k q)))

  pub put_swap_none : (j k : ℕ) → put (put f j None) k None ≡ put (put f k None) j None
  put_swap_none j k = fun_ext (λ n. swap_none (eqb n j) (eqb n k) (f n))

  pub put_back : (k : ℕ) (x : Option A) → f k ≡ None → put (put f k x) k None ≡ f
  put_back k x e = fun_ext (λ n. back (eqb n k) x (f n) (λ p. subst (λ (m : ℕ). f m ≡ None) (sym (eqb-true n k p)) e))
