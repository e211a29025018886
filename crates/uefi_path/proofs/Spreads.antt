-- How long the pieces of a text are together, and what holds of each of their units.
use Rattle.std.proofs.Common.{◌≡◌, ℕ, ◌+◌, ◌≤◌, Bool, true, false, cond, ◌||◌, eqb, List, [], ◌∷◌, ◌++◌, length, refl, arith}
use Rattle.std.proofs.lemmas.Bool.{and_parts, and_from, cond_both, cond-false}
use Rattle.std.specs.List.{onto_first, list_all}
use Rattle.uefi_types.proofs.Tested.{all_append}
use Rattle.uefi_path.specs.Components.{sep, cut, pieces, unled, components}
use Rattle.uefi_path.specs.Parents.{is_empty, ends_in_sep, with_component, joined_to, but_last}

-- how long components are, each with a separator
abbrev pub spread : List (List ℕ) → ℕ
spread [] = 0
spread (c ∷ cs) = length c + 1 + spread cs

-- each piece with a separator, they are one unit longer than the text
pub spread_cut : (xs : List ℕ) → spread (cut xs) ≡ length xs + 1
spread_cut [] = refl
spread_cut (x ∷ xs) = by (eqb x sep) (cut xs) (spread_cut xs)
  where
    by : (b : Bool) (ps : List (List ℕ)) → spread ps ≡ length xs + 1 → spread (cond b ([] ∷ ps) (onto_first x ps)) ≡ length (x ∷ xs) + 1
    by true ps h = omega arith
    by false [] h = omega arith
    by false (p ∷ ps) h = omega arith

-- so the components of a text are at most so long
pub spread_components : (us : List ℕ) → spread (components us) ≤ length us + 1
spread_components us = pieced (unled us) (shorter us)
  where
    pieced : (ys : List ℕ) → length ys ≤ length us → spread (pieces ys) ≤ length us + 1
    pieced [] l = omega arith
    pieced (y ∷ ys) l = omega (arith, spread_cut (y ∷ ys))

    shorter : (vs : List ℕ) → length (unled vs) ≤ length vs
    shorter [] = omega arith
    shorter (v ∷ vs) = cond_both (eqb v sep) vs (v ∷ vs) (λ ws. length ws ≤ length (v ∷ vs)) (λ _. omega arith) (λ _. omega arith)

-- there are no more components than units
pub length_components : (us : List ℕ) → length (components us) ≤ length us
length_components [] = omega arith
length_components (u ∷ us) = by (eqb u sep) refl
  where
    counted : (cs : List (List ℕ)) → length cs ≤ spread cs
    counted [] = omega arith
    counted (c ∷ cs) = omega (arith, counted cs)

    pieced : (ys : List ℕ) → length (pieces ys) ≤ length ys + 1
    pieced [] = omega arith
    pieced (y ∷ ys) = omega (arith, counted (cut (y ∷ ys)), spread_cut (y ∷ ys))

    first : (ps : List (List ℕ)) → 1 ≤ spread ps → length (onto_first u ps) ≤ spread ps
    first [] l = absurd (omega arith)
    first (p ∷ ps) l = omega (arith, counted ps)

    by : (b : Bool) → eqb u sep ≡ b → length (pieces (cond b us (u ∷ us))) ≤ length (u ∷ us)
    by true e = omega (arith, pieced us)
    by false e = rw (cond-false _ _ _ e) (omega (arith, first (cut us) (omega (arith, spread_cut us)), spread_cut us))

module _ (test : ℕ → Bool) where
  -- what holds of each unit of a text holds of each unit of its pieces
  pub all_cut : (xs : List ℕ) → list_all test xs ≡ true → list_all (list_all test) (cut xs) ≡ true
  all_cut [] h = refl
  all_cut (x ∷ xs) h =
      let p = and_parts (test x) (list_all test xs) h in
      by (eqb x sep) (cut xs) p.0 (all_cut xs p.1)
    where
      by : (b : Bool) (ps : List (List ℕ)) → test x ≡ true → list_all (list_all test) ps ≡ true → list_all (list_all test) (cond b ([] ∷ ps) (onto_first x ps)) ≡ true
      by true ps k l = l
      by false [] k l = and_from _ _ (and_from _ _ k refl) refl
      by false (p ∷ ps) k l =
          let q = and_parts (list_all test p) (list_all (list_all test) ps) l in
          and_from _ _ (and_from _ _ k q.0) q.1

  pub all_components : (us : List ℕ) → list_all test us ≡ true → list_all (list_all test) (components us) ≡ true
  all_components us h = pieced (unled us) (left us h)
    where
      pieced : (ys : List ℕ) → list_all test ys ≡ true → list_all (list_all test) (pieces ys) ≡ true
      pieced [] k = refl
      pieced (y ∷ ys) k = all_cut (y ∷ ys) k

      left : (vs : List ℕ) → list_all test vs ≡ true → list_all test (unled vs) ≡ true
      left [] k = refl
      left (v ∷ vs) k = cond_both (eqb v sep) vs (v ∷ vs) (λ ws. list_all test ws ≡ true) (λ _. (and_parts (test v) (list_all test vs) k).1) (λ _. k)

  -- and of each unit of components joined again
  pub all_joined : test sep ≡ true → (text : List ℕ) (cs : List (List ℕ)) → list_all test text ≡ true → list_all (list_all test) cs ≡ true → list_all test (joined_to text cs) ≡ true
  all_joined s text [] h k = h
  all_joined s text (c ∷ cs) h k =
      let p = and_parts (list_all test c) (list_all (list_all test) cs) k in
      all_joined s (with_component text c) cs (with (is_empty text || ends_in_sep text) p.0) p.1
    where
      with : (b : Bool) → list_all test c ≡ true → list_all test (cond b (text ++ c) (text ++ sep ∷ c)) ≡ true
      with true l = all_append test text c h l
      with false l = all_append test text (sep ∷ c) h (and_from _ _ s l)

pub all_but_last : {X : Type 0} (test : X → Bool) (xs : List X) → list_all test xs ≡ true → list_all test (but_last xs) ≡ true
all_but_last test [] h = refl
all_but_last test (x ∷ []) h = refl
all_but_last test (x ∷ (y ∷ ys)) h =
    let p = and_parts (test x) (list_all test (y ∷ ys)) h in
    and_from _ _ p.0 (all_but_last test (y ∷ ys) p.1)
