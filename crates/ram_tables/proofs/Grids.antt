-- Tables of optional rows: what a write to one leaves, and how many rows are taken.
use Rattle.std.proofs.Common.{◌≡◌, ℕ, zero, suc, ◌+◌, ◌-◌, ◌<◌, ◌≤◌, Bool, true, false, cond, ◌⊎◌, List, [], ◌∷◌, length, set, Some, None, Option, MatchOption, is_some, sym, refl, ap, ◌∙◌, subst, inl, inr, arith}
use mathlib.Core.Path.{fun_ext}
use Rattle.std.proofs.lemmas.List.{length-set, get_or-set_same, get_or-set_other, get_or_past}
use Rattle.std.proofs.lemmas.List.Sums.{sum_by-set, sum_by-cons, count_by-le-length}
use Rattle.std.specs.List.{AllWithin, HoldsAt}
use Rattle.std.proofs.lemmas.Bool.{cases_lt, cases_eq, false≢true}
use Rattle.std.specs.Borrow.{Bor}
use Rattle.std.specs.Option.{option_copied}
use Rattle.volume.specs.Tree.{put}
use Rattle.volume.proofs.Puts.{put_same, put_other, none_some}
use Rattle.ram_tables.specs.Tables.{row, taken, count}

-- one lemma turns what holds at each number into an equation of functions
pub put_ext : {B : Type 0} (f g : ℕ → Option B) (i : ℕ) (x : Option B) → f i ≡ x → ((n : ℕ) → (n ≡ i → ⊥) → f n ≡ g n) → f ≡ put g i x
put_ext f g i x e h = fun_ext (λ n. elim (cases_eq n i) [
  | inl p ↦ subst (λ (m : ℕ). f m ≡ put g i x m) (sym p) (e ∙ sym (put_same g i x))
  | inr ne ↦ h n ne ∙ sym (put_other g i n x ne)
])

module _ {A : Type 0} (xs : List (Option A)) (i : ℕ) where
  pub row_in : (x : A) → row xs i ≡ Some x → i < length xs
  row_in x e = elim (cases_lt i (length xs)) [ inl h ↦ h | inr h ↦ absurd (none_some (get_or_past xs i None h) e) ]

  pub row_same : (x : Option A) → i < length xs → row (set xs i x) i ≡ x
  row_same x h = get_or-set_same xs i x None h

  pub row_other : (x : Option A) (n : ℕ) → (n ≡ i → ⊥) → row (set xs i x) n ≡ row xs n
  row_other x n h = get_or-set_other xs i n x None h

module _ {A : Type 0} (xs : List (Option A)) (i : ℕ) where
  -- the rows after a write: the new one, or an old one elsewhere
  pub row_cases : (x : Option A) (n : ℕ) (y : A) → row (set xs i x) n ≡ Some y → ((n ≡ i) × (x ≡ Some y)) ⊎ ((n ≡ i → ⊥) × (row xs n ≡ Some y))
  row_cases x n y e = elim (cases_eq n i) [
    | inl p ↦ (let here : row (set xs i x) i ≡ Some y = subst (λ (m : ℕ). row (set xs i x) m ≡ Some y) p e in
        let short : i < length xs = omega (arith, length-set xs i x, row_in (set xs i x) i y here) in
        inl (p, sym (row_same xs i x short) ∙ here))
    | inr ne ↦ inr (ne, sym (row_other xs i x n ne) ∙ e)
  ]

  pub table_set : (x : Option A) → i < length xs → row (set xs i x) ≡ put (row xs) i x
  table_set x h = put_ext (row (set xs i x)) (row xs) i x (row_same xs i x h) (λ n ne. row_other xs i x n ne)

-- one more row, as at a step of a search
pub rows_more : {A : Type 0} (xs : List (Option A)) (No : ℕ → A → Type 0) (n : ℕ) → ((k : ℕ) (x : A) → k < n → row xs k ≡ Some x → No k x)
    → ((x : A) → row xs n ≡ Some x → No n x) → (k : ℕ) (x : A) → k < n + 1 → row xs k ≡ Some x → No k x
rows_more xs No n below here k x l z = elim (cases_lt k n) [
  | inl m ↦ below k x m z
  | inr m ↦ (let q : n ≡ k = omega arith in subst (λ (j : ℕ). No j x) q (here x (ap (row xs) q ∙ z)))
]

-- what holds of a reference to a row holds of the row
pub copied_match : {A : Type 0} (P : Type 0) (Q : A → Type 0) (o : Option (Bor A)) (r : Option A) → option_copied o ≡ r → MatchOption o P (λ p. Q p.now) → MatchOption r P Q
copied_match {A} P Q (Some p) r e h = subst (λ (s : Option A). MatchOption s P Q) e h
copied_match {A} P Q None r e h = subst (λ (s : Option A). MatchOption s P Q) e h

pub copied_some : {A : Type 0} (o : Option (Bor A)) (r : Option A) → option_copied o ≡ r → is_some o ≡ true → (x : A) × (r ≡ Some x)
copied_some (Some p) r e h = (p.now, sym e)
copied_some None r e h = absurd (false≢true h)

-- what a row counts
abbrev weight : {A : Type 0} → Option A → ℕ
weight o = cond (taken o) 1 0

weight_small : {A : Type 0} (o : Option A) → weight o ≤ 1
weight_small (Some x) = omega arith
weight_small None = omega arith

module _ {A : Type 0} (xs : List (Option A)) (i : ℕ) where
  pub count_less : (x : A) → row xs i ≡ Some x → count (set xs i None) ≡ count xs - 1
  count_less x e =
      let h = row_in xs i x e in
      let k : weight (row xs i) ≡ 1 = ap weight e in
      omega (arith, sum_by-set weight xs i None None h, k)

  pub count_some : (x : A) → row xs i ≡ Some x → 0 < count xs
  count_some x e =
      let h = row_in xs i x e in
      let k : weight (row xs i) ≡ 1 = ap weight e in
      omega (arith, sum_by-set weight xs i None None h, k)

  pub count_same : (x y : A) → row xs i ≡ Some x → count (set xs i (Some y)) ≡ count xs
  count_same x y e =
      let h = row_in xs i x e in
      let k : weight (row xs i) ≡ 1 = ap weight e in
      omega (arith, sum_by-set weight xs i (Some y) None h, k)

  pub count_more : (x : A) → row xs i ≡ None → i < length xs → count (set xs i (Some x)) ≡ count xs + 1
  count_more x e h =
      let k : weight (row xs i) ≡ 0 = ap weight e in
      omega (arith, sum_by-set weight xs i (Some x) None h, k)

pub count_space : {A : Type 0} (xs : List (Option A)) (i : ℕ) → row xs i ≡ None → i < length xs → count xs < length xs
count_space [] i e h = absurd (omega arith)
count_space {A} (x ∷ xs) zero e h =
    let k : weight x ≡ 0 = ap weight e in
    omega (arith, sum_by-cons weight x xs, k, count_by-le-length taken xs)
count_space {A} (x ∷ xs) (suc i) e h =
    omega (arith, sum_by-cons weight x xs, weight_small x, count_space xs i e (omega arith))

pub count_full : {A : Type 0} (xs : List (Option A)) → ((i : ℕ) → i < length xs → taken (row xs i) ≡ true) → length xs ≤ count xs
count_full [] h = omega arith
count_full {A} (x ∷ xs) h =
    let k : weight x ≡ 1 = ap (λ (b : Bool). cond b 1 0) (h 0 (omega arith)) in
    omega (arith, sum_by-cons weight x xs, k, count_full xs (λ i l. h (suc i) (omega arith)))

-- where rows are counted, one is taken
pub some_row : {A : Type 0} (xs : List (Option A)) → 0 < count xs → (k : ℕ) × (x : A) × (row xs k ≡ Some x)
some_row [] h = absurd (omega arith)
some_row (Some x ∷ xs) h = (0, x, refl)
some_row {A} (None ∷ xs) h =
    let (k, x, e) = some_row xs (omega (arith, sum_by-cons weight None xs)) in
    (suc k, x, e)

pub taken_not : {A : Type 0} (o : Option A) → taken o ≡ false → o ≡ None
taken_not (Some x) e = cc
taken_not None e = refl

pub first_vacant : {A : Type 0} (xs : List (Option A)) (r : Option ℕ) {n : ℕ} → length xs ≡ n
    → MatchOption r (AllWithin (λ o. taken o ≡ true) xs 0 (length xs)) (λ i. (i < length xs) × HoldsAt (λ o. taken o ≡ false) xs i × AllWithin (λ o. taken o ≡ true) xs 0 i)
    → MatchOption r (n ≤ count xs) (λ k. (k < n) × (row xs k ≡ None) × (count xs < n))
first_vacant xs (Some i) long h =
    let e : row xs i ≡ None = taken_not (row xs i) (h.1 None) in
    (omega arith, e, omega (arith, long, count_space xs i e h.0))
first_vacant xs None long h = omega (arith, long, count_full xs (λ i l. h i None (omega arith) l))
