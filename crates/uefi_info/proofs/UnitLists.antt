-- Units and their bytes.
use Rattle.std.proofs.Common.{◌≡◌, ℕ, zero, suc, ◌+◌, ◌*◌, ◌/◌, ◌<◌, ◌≤◌, Bool, true, false, cond, not, ◌&&◌, eqb, ltb, List, [], ◌∷◌, ◌++◌, length, get_or, take, drop, set, Some, None, Option, sym, refl, ap, ◌∙◌, append_assoc, zero-add, arith}
use denote.Ref.{Bor}
use Rattle.std.proofs.lemmas.Grind.{get_or_default_zero}
use Rattle.std.proofs.lemmas.List.{length-take-le, drop_more, take_more, take_all, set_at}
use Rattle.std.proofs.lemmas.List.FromFn.{length-enumerate_from, get_or-enumerate_from}
use Rattle.std.proofs.lemmas.Option.{slice_get-get_or, slice_get_past}
use Rattle.std.proofs.lemmas.Bool.Decides.{nat_tests}
use Rattle.std.specs.List.{position, position_or_len, slice_get, enumerate_from, HoldsAt}
use Rattle.std.specs.Option.{option_map, MatchOption, IfSome, IsSomeAnd}
use Rattle.std.specs.Simd.{first_chunks}
use Rattle.uefi_types.specs.LittleEndian.{le_value}
use Rattle.uefi_info.specs.Records.{units_of, name_length}

pub units_length : (bs : List ℕ) → length (units_of bs) ≡ length bs / 2
units_length [] = refl
units_length (a ∷ []) = refl
units_length (a ∷ b ∷ bs) = let h = units_length bs in omega arith

-- the first unit is taken off
pub fewer_units : (bs : List ℕ) → 2 ≤ length bs → length (units_of (drop 2 bs)) < length (units_of bs)
fewer_units [] l = absurd (omega arith)
fewer_units (a ∷ []) l = absurd (omega arith)
fewer_units (a ∷ b ∷ bs) l = omega arith

-- the unit at a place, of the bytes in pairs
pub unit_of_pair : (bs : List ℕ) (place : ℕ) → option_map le_value (slice_get (first_chunks 2 (length bs / 2) bs) place) ≡ slice_get (units_of bs) place
unit_of_pair [] place = refl
unit_of_pair (a ∷ []) place = refl
unit_of_pair (a ∷ b ∷ bs) zero =
    let e : suc (suc (length bs)) / 2 ≡ suc (length bs / 2) = omega arith in
    ap (λ k. option_map le_value (slice_get (first_chunks 2 k (a ∷ b ∷ bs)) 0)) e
unit_of_pair (a ∷ b ∷ bs) (suc place) =
    let e : suc (suc (length bs)) / 2 ≡ suc (length bs / 2) = omega arith in
    ap (λ k. option_map le_value (slice_get (first_chunks 2 k (a ∷ b ∷ bs)) (suc place))) e ∙ unit_of_pair bs place

place_cons : (t : Bool) (k n : ℕ) → cond (ltb (cond (not t) (1 + k) 0) (suc n)) (Some (cond (not t) (1 + k) 0)) None ≡ cond t (Some 0) (option_map (λ j. j + 1) (cond (ltb k n) (Some k) None))
place_cons true k n = grind (arith, nat_tests)
place_cons false k n = grind (arith, nat_tests)

-- the place of the first element with a test, from the head on
position_cons : (p : ℕ → Bool) (x : ℕ) (xs : List ℕ) → position p (x ∷ xs) ≡ cond (p x) (Some 0) (option_map (λ n. n + 1) (position p xs))
position_cons p x xs = place_cons (p x) (position_or_len p xs) (length xs)

-- the first NUL among the units is where the name ends
pub nul_position : (bs : List ℕ) → position (λ u. eqb u 0) (units_of bs) ≡ name_length bs
nul_position [] = refl
nul_position (a ∷ []) = refl
nul_position (a ∷ b ∷ bs) =
    let same : eqb (le_value (a ∷ b ∷ [])) 0 ≡ (eqb a 0 && eqb b 0) = grind (arith, nat_tests) in
    position_cons (λ u. eqb u 0) (le_value (a ∷ b ∷ [])) (units_of bs) ∙ (λ i. cond (same i) (Some 0) (option_map (λ n. n + 1) (nul_position bs i)))

-- it has its two bytes
pub nul_bound : (bs : List ℕ) (r : Option ℕ) → IfSome r (λ n. n < length (units_of bs)) → IfSome r (λ n. 2 * (n + 1) ≤ length bs)
nul_bound bs None h = tt
nul_bound bs (Some n) h = let l = units_length bs in omega arith

-- one element more of a list that is copied to the front of another, as each comes with its place
pub copy_more : (old xs out : List ℕ) (k place v : ℕ) → k < length (enumerate_from 0 xs) → (place, v) ≡ get_or (enumerate_from 0 xs) k (place, v) → length xs ≤ length old →
    out ≡ take k xs ++ drop k old → set out place v ≡ take (k + 1) xs ++ drop (k + 1) old
copy_more old xs out k place v l turn m inv =
    let within : k < length xs = rw length-enumerate_from at l in
    let pair = turn ∙ get_or-enumerate_from 0 xs k (place, v) within in
    let at : place ≡ k = ap (λ p. p.0) pair ∙ zero-add k in
    let val : v ≡ get_or xs k 0 = ap (λ p. p.1) pair ∙ get_or_default_zero xs k v within in
    let long : length (take k xs) ≡ k = length-take-le k xs (omega arith) in
    (λ i. set ((inv ∙ ap (λ t. take k xs ++ t) (drop_more old k 0 (omega arith))) i) (at i) (val i)) ∙
    set_at (take k xs) (get_or old k 0) (drop (k + 1) old) (get_or xs k 0) k long ∙
    sym (ap (λ t. t ++ drop (k + 1) old) (take_more xs k 0 within) ∙ append_assoc (take k xs) (get_or xs k 0 ∷ []) (drop (k + 1) old))

pub copy_all : (old xs out : List ℕ) (k n : ℕ) → n ≡ length xs → k ≡ length xs → out ≡ take k xs ++ drop k old → out ≡ xs ++ drop n old
copy_all old xs out k n long e inv = let f : k ≡ n = e ∙ sym long in inv ∙ (λ i. take_all k xs (omega (arith, e)) i ++ drop (f i) old)

-- the pair that a look-up finds is a unit's
pub unit_found : (bs : List ℕ) (place : ℕ) (pairs : List (List ℕ)) (o : Option (Bor (List ℕ))) (r : Option ℕ) → pairs ≡ first_chunks 2 (length bs / 2) bs →
    MatchOption o (length pairs ≤ place) (λ x. (place < length pairs) × HoldsAt (λ y. x.now ≡ y) pairs place) →
    MatchOption o (r ≡ None) (λ x. IsSomeAnd r (λ v. v ≡ le_value x.now)) → r ≡ slice_get (units_of bs) place
unit_found bs place pairs None r e past none = none ∙ ap (option_map le_value) (sym (slice_get_past pairs place past)) ∙ ap (λ t. option_map le_value (slice_get t place)) e ∙ unit_of_pair bs place
unit_found bs place pairs (Some x) None e found is = absurd is
unit_found bs place pairs (Some x) (Some v) e found is =
    ap Some (is ∙ ap le_value (found.1 [])) ∙ ap (option_map le_value) (sym (slice_get-get_or pairs place [] found.0)) ∙
    ap (λ t. option_map le_value (slice_get t place)) e ∙ unit_of_pair bs place
