-- A text cut at its first separator, and at each.
use Rattle.std.proofs.Common.{◌≡◌, ℕ, ◌+◌, ◌-◌, ◌<◌, ◌≤◌, Bool, true, false, cond, not, ◌&&◌, ◌||◌, eqb, ltb, leb, List, [], ◌∷◌, ◌++◌, length, get_or, take, drop, sym, refl, ap, ◌∙◌, add-one, arith}
use Rattle.std.proofs.lemmas.List.{at_drop_more, take-append-drop, take_rest, take_all, drop-drop, length-drop}
use Rattle.std.proofs.lemmas.List.Folds.{list_all_more}
use Rattle.std.proofs.lemmas.Bool.Decides.{nat_tests}
use Rattle.std.proofs.lemmas.Bool.{and_from, ne_eqb, le-leb, cond-true, cond-false, lt-ltb, le-ltb}
use Rattle.std.specs.List.{list_any, list_all}
use Rattle.uefi_path.specs.Components.{sep, no_sep, cut, pieces, components, start, components_from}
use Rattle.uefi_path.proofs.Cuts.{cut_append, cut_one}

-- the first piece of s has n units
abbrev pub First : List ℕ → ℕ → Type 0
First s n = cut s ≡ take n s ∷ cond (ltb n (length s)) (cut (drop (n + 1) s)) []

module _ (xs : List ℕ) (i : ℕ) where
  -- one unit more that is no separator
  pub more : i < length xs → list_all no_sep (take i xs) ≡ true → (get_or xs i 0 ≡ sep → ⊥) → list_all no_sep (take (i + 1) xs) ≡ true
  more l h n = list_all_more no_sep xs i 0 l ∙ and_from _ _ h (ap not (ne_eqb (get_or xs i 0) sep n))

  pub here : list_all no_sep (take i xs) ≡ true → i < length xs → get_or xs i 0 ≡ sep → First xs i
  here h l e =
      let s = drop (i + 1) xs in
      ap cut (sym (take-append-drop i xs) ∙ at_drop_more (λ z. take i xs ++ z) xs i 0 l ∙ ap (λ u. take i xs ++ u ∷ s) e)
      ∙ cut_append (take i xs) s ∙ ap (λ z. z ++ cut s) (cut_one (take i xs) h)
      ∙ ap (λ z. take i xs ∷ z) (sym (cond-true _ _ _ (lt-ltb i (length xs) l)))

  pub nowhere : list_all no_sep (take i xs) ≡ true → length xs ≤ i → First xs i
  nowhere h l =
      ap cut (sym (take_all i xs l)) ∙ cut_one (take i xs) h
      ∙ ap (λ z. take i xs ∷ z) (sym (cond-false _ _ _ (le-ltb i (length xs) l)))

-- the same of what is left of p from i on
pub first_at : (p : List ℕ) (i n : ℕ) → First (take (length p - i) (drop i p)) n → cut (drop i p) ≡ take (i + n - i) (drop i p) ∷ cond (ltb (i + n) (length p)) (cut (drop (i + n + 1) p)) []
first_at p i n h =
    let a : i + n - i ≡ n = omega arith in
    let l = length-drop i p in
    let b : ltb (i + n) (length p) ≡ ltb n (length (drop i p)) = grind (arith, nat_tests) in
    let c : drop (i + n + 1) p ≡ drop (n + 1) (drop i p) = ap (λ k. drop k p) (omega arith) ∙ sym (drop-drop (n + 1) i p) in
    rw (a, b, c) (rw take_rest at h)

-- the components from i on, when the first of them has n units
pub next_from : (us : List ℕ) (i n : ℕ) → i ≤ length us → First (take (length us - i) (drop i us)) n →
    components_from i us ≡ take (i + n - i) (drop i us) ∷ components_from (i + n + 1) us
next_from us i n l h =
    cond-true _ _ _ (le-leb i (length us) l) ∙ first_at us i n h
    ∙ ap (λ k. take (i + n - i) (drop i us) ∷ cond (leb k (length us)) (cut (drop (i + n + 1) us)) []) (sym (add-one (i + n)))

-- from where the first one begins, they are all
pub from_start : (us : List ℕ) → components_from (start us) us ≡ components us
from_start [] = refl
from_start (u ∷ []) = by (eqb u sep) refl
  where
    by : (b : Bool) → eqb u sep ≡ b → components_from (cond b 2 0) (u ∷ []) ≡ pieces (cond b [] (u ∷ []))
    by true e = refl
    by false e = refl
from_start (u ∷ (v ∷ vs)) = by (eqb u sep)
  where
    by : (b : Bool) → components_from (cond b 1 0) (u ∷ (v ∷ vs)) ≡ pieces (cond b (v ∷ vs) (u ∷ (v ∷ vs)))
    by true = cond-true _ _ _ (le-leb 1 (length (u ∷ (v ∷ vs))) (omega arith))
    by false = cond-true _ _ _ (le-leb 0 (length (u ∷ (v ∷ vs))) (omega arith))

-- whether there is a separator
pub has_sep : (us : List ℕ) → list_any (λ u. eqb u sep) us ≡ not (list_all no_sep us)
has_sep [] = refl
has_sep (u ∷ us) = by (eqb u sep) (has_sep us)
  where
    by : (b : Bool) → list_any (λ v. eqb v sep) us ≡ not (list_all no_sep us) → (b || list_any (λ v. eqb v sep) us) ≡ not (not b && list_all no_sep us)
    by true h = refl
    by false h = h
