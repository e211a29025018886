-- Names by their units.
use Rattle.std.proofs.Common.{◌≡◌, ℕ, zero, suc, ◌<◌, ◌≤◌, Bool, true, false, not, ◌&&◌, leb, ◌⊎◌, List, [], ◌∷◌, length, get_or, MatchBool, sym, refl, inl, inr, arith}
use Rattle.std.proofs.lemmas.Bool.{le-leb, lt-leb, leb-true, and_parts, and_from, and_left, and_right}
use Rattle.std.specs.List.{AllWithin, HoldsAt, list_all}
use Rattle.uefi_types.specs.Units.{text_unit, is_text}
use Rattle.uefi_path.specs.Validity.{denied}
use Rattle.volume.specs.Calls.{nameable}
use Rattle.volume.specs.Tree.{Name, is_dots, is_name}

module _ {X : Type 0} (test : X → Bool) where
  -- one element that does not pass is enough
  pub all_fails : (xs : List X) (i : ℕ) (d : X) → i < length xs → test (get_or xs i d) ≡ false → list_all test xs ≡ false
  all_fails [] i d l e = absurd (omega arith)
  all_fails (x ∷ xs) zero d l e = and_left (test x) (list_all test xs) e
  all_fails (x ∷ xs) (suc i) d l e = and_right (test x) (list_all test xs) (all_fails xs i d (omega arith) e)

  pub all_all : (xs : List X) → ((i : ℕ) (d : X) → i < length xs → test (get_or xs i d) ≡ true) → list_all test xs ≡ true
  all_all [] h = refl
  all_all (x ∷ xs) h = and_from (test x) (list_all test xs) (h 0 x (omega arith)) (all_all xs (λ i d l. h (suc i) d (omega arith)))

  -- what a chain that asks of all elements answers
  pub all_from_all : (xs : List X) (r : Bool) → MatchBool r (AllWithin (λ x. test x ≡ true) xs 0 (length xs)) ((k : ℕ) × (k < length xs) × HoldsAt (λ x. test x ≡ false) xs k) → r ≡ list_all test xs
  all_from_all xs true h = sym (all_all xs (λ i d l. h i d (omega arith) l))
  all_from_all (x ∷ xs) false h = sym (all_fails (x ∷ xs) h.0 x h.1 (h.2 x))
  all_from_all [] false h = absurd (omega (arith, h.1))

  pub all_both : (more : X → Bool) (xs : List X) → list_all (λ x. test x && more x) xs ≡ (list_all test xs && list_all more xs)
  all_both more [] = refl
  all_both more (x ∷ xs) = let h = all_both more xs in grind (arith, h)

abbrev pub allowed : ℕ → Bool
allowed u = not (denied u) && text_unit u

-- what is left of the test of a name whose length will do
pub nameable_by : (c : Name) → 1 ≤ length c → length c ≤ 64 → nameable 64 c ≡ (list_all allowed c && not (is_dots c))
nameable_by c l m = let h = all_both (λ u. not (denied u)) text_unit c in grind (arith, h, le-leb)

pub not_nameable : (c : Name) → (length c < 1) ⊎ (64 < length c) → nameable 64 c ≡ false
not_nameable c (inl h) = grind (arith, lt-leb)
not_nameable c (inr h) = grind (arith, lt-leb)

pub nameable_short : (c : Name) → nameable 64 c ≡ true → length c ≤ 64
nameable_short c e = leb-true (length c) 64 (and_parts (is_name c) (leb (length c) 64) e).1

pub nameable_name : (c : Name) → nameable 64 c ≡ true → is_name c ≡ true
nameable_name c e = (and_parts (is_name c) (leb (length c) 64) e).0

pub name_text : (c : Name) → is_name c ≡ true → is_text c ≡ true
name_text c e = grind (arith, and_parts)
