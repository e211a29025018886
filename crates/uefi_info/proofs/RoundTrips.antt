-- Names and records: what is written is read, and what was read is written.
use Rattle.std.proofs.Common.{◌≡◌, ℕ, zero, suc, ◌+◌, ◌*◌, ◌/◌, ◌%◌, ◌<◌, Bool, true, false, cond, not, ◌&&◌, eqb, List, [], ◌∷◌, ◌++◌, length, Some, None, Option, sym, refl, ap, ◌∙◌, arith}
use Rattle.std.proofs.lemmas.Bool.{cond-false, and_parts, and_from, eqb-true}
use Rattle.std.proofs.lemmas.Bool.Decides.{nat_tests}
use Rattle.std.specs.Option.{option_map}
use Rattle.uefi_types.specs.LittleEndian.{le_value, AreBytes}
use Rattle.uefi_types.proofs.Endian.{le_value_bytes, le_bytes_value, le_lt, bytes_none, bytes_cons}
use Rattle.uefi_info.specs.Records.{unit_bytes, units_of, name_length, AreUnits, no_nul, NameIn}

pub unit_bytes_length : (us : List ℕ) → length (unit_bytes us) ≡ 2 * length us
unit_bytes_length [] = refl
unit_bytes_length (u ∷ us) = let h = unit_bytes_length us in omega arith

-- units that are written are read
pub units_back : (us : List ℕ) → AreUnits us → units_of (unit_bytes us) ≡ us
units_back [] h = refl
units_back (u ∷ us) h = λ i. le_value_bytes 2 u (h 0) i ∷ units_back us (λ j. h (suc j)) i

-- a unit that is not NUL has a byte that is not zero
not_nul : (u : ℕ) → u < 65536 → not (eqb u 0) ≡ true → (eqb (u % 256) 0 && eqb (u / 256 % 256) 0) ≡ false
not_nul u l h = grind (arith, nat_tests)

-- the NUL after a name is found
pub nul_found : (us rest : List ℕ) → AreUnits us → no_nul us ≡ true → name_length (unit_bytes us ++ (0 ∷ 0 ∷ rest)) ≡ Some (length us)
nul_found [] rest h n = refl
nul_found (u ∷ us) rest h n =
    let p = and_parts (not (eqb u 0)) (no_nul us) n in
    cond-false _ _ _ (not_nul u (h 0) p.0) ∙ ap (option_map (λ k. k + 1)) (nul_found us rest (λ j. h (suc j)) p.1) ∙ ap Some (omega arith)

-- what stands before a NUL that was found
pub record Found (bs : List ℕ) (n : ℕ) : Type 0 where
  pub us : List ℕ
  pub count : length us ≡ n
  pub units : AreUnits us
  pub named : NameIn bs us

less_one : (o : Option ℕ) (n : ℕ) → option_map (λ k. k + 1) o ≡ Some n → (m : ℕ) × (o ≡ Some m) × (m + 1 ≡ n)
less_one None n e = absurd (let z : ◌≡◌ {A = ℕ} 0 1 = cc in omega arith)
less_one (Some m) n e = (m, refl, let d : m + 1 ≡ n = cc in d)

units_cons : (u : ℕ) (us : List ℕ) → u < 65536 → AreUnits us → AreUnits (u ∷ us)
units_cons u us l h zero = l
units_cons u us l h (suc i) = h i

pub found : (bs : List ℕ) (n : ℕ) → AreBytes bs → name_length bs ≡ Some n → Found bs n
found [] n h e = absurd (let z : ◌≡◌ {A = ℕ} 0 1 = cc in omega arith)
found (a ∷ []) n h e = absurd (let z : ◌≡◌ {A = ℕ} 0 1 = cc in omega arith)
found (a ∷ b ∷ bs) n h e = by (eqb a 0 && eqb b 0) refl e (found bs)
  where
    pair : AreBytes (a ∷ b ∷ [])
    pair = bytes_cons a (b ∷ []) (h 0) (bytes_cons b [] (h 1) bytes_none)

    nonzero : (eqb a 0 && eqb b 0) ≡ false → not (eqb (le_value (a ∷ b ∷ [])) 0) ≡ true
    nonzero t = grind (arith, nat_tests)

    by : (t : Bool) → (eqb a 0 && eqb b 0) ≡ t → cond t (Some 0) (option_map (λ k. k + 1) (name_length bs)) ≡ Some n → ((m : ℕ) → AreBytes bs → name_length bs ≡ Some m → Found bs m) → Found (a ∷ b ∷ bs) n
    by true t e more =
        let p = and_parts (eqb a 0) (eqb b 0) t in
        let z : 0 ≡ n = cc in
        record {
          us = [];
          count = z;
          units = λ i. omega arith;
          named = (bs, (λ i. eqb-true a 0 p.0 i ∷ eqb-true b 0 p.1 i ∷ bs), refl);
        }
    by false t e more =
        let l = less_one (name_length bs) n e in
        let f = more l.0 (λ i. h (suc (suc i))) l.1 in
        record {
          us = le_value (a ∷ b ∷ []) ∷ f.us;
          count = let k = f.count in omega (arith, l.2);
          units = units_cons (le_value (a ∷ b ∷ [])) f.us (le_lt (a ∷ b ∷ []) pair) f.units;
          named = (f.named.0, (λ i. sym (le_bytes_value (a ∷ b ∷ []) pair) i ++ f.named.1 i), and_from _ _ (nonzero t) f.named.2);
        }
