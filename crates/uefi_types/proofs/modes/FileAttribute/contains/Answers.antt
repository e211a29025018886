use Rattle.std.proofs.Common.{◌≡◌, ℕ, zero, suc, ◌+◌, ◌-◌, ◌*◌, ◌/◌, ◌%◌, ◌^◌, ◌<◌, eqb, sym, refl, ap, ◌∙◌, arith}
use lib.Bits.{bit_and, and_high}
use Rattle.std.proofs.lemmas.Nat.{pow-add, pow_pos}
use Rattle.std.proofs.lemmas.Bool.{eq-eqb, ne_eqb}
use Rattle.uefi_types.specs.Modes.{has_bit, read_only_bit, hidden_bit, system_bit, directory_bit, archive_bit}
use Rattle.uefi_types.proofs.modes.FileAttribute.contains.Goals as goal

scaled : (b p : ℕ) → b < 2 → 0 < p → eqb (b * p) p ≡ eqb b 1
scaled zero p l h = ne_eqb (0 * p) p (λ e. omega arith)
scaled (suc zero) p l h = eq-eqb (1 * p) p (omega arith)
scaled (suc (suc b)) p l h = absurd (omega arith)

-- a number and one bit give that bit
one_bit : (k n : ℕ) → eqb (bit_and n (2 ^ k)) (2 ^ k) ≡ has_bit k n
one_bit k n =
    let p = pow_pos k in
    let d : 2 ^ (1 + k) - 2 ^ k ≡ 2 ^ k = omega (arith, pow-add 2 1 k) in
    ap (λ m. eqb m (2 ^ k)) (ap (bit_and n) (sym d) ∙ and_high n 1 k) ∙ scaled (n / 2 ^ k % 2) (2 ^ k) (omega arith) p

-- whether it is set is what the number and the bit tell
at_bit : (n m k : ℕ) → m ≡ 2 ^ k → eqb (bit_and n m) m ≡ has_bit k n
at_bit n m k e = (λ i. eqb (bit_and n (e i)) (e i)) ∙ one_bit k n

pub returns : goal.returns
returns c =
    let asked = at_bit c.args.self.0 c.args.other.0 in
    record {
      value = refl;
      bit = asked;
      read_only = λ e. asked read_only_bit (ap (λ a. a.0) e);
      hidden = λ e. asked hidden_bit (ap (λ a. a.0) e);
      system = λ e. asked system_bit (ap (λ a. a.0) e);
      directory = λ e. asked directory_bit (ap (λ a. a.0) e);
      archive = λ e. asked archive_bit (ap (λ a. a.0) e);
    }
