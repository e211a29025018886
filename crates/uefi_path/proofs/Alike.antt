-- Tests of one fact answer alike, and lists of texts are compared unit by unit.
use Rattle.std.proofs.Common.{◌≡◌, ℕ, Bool, true, false, eqb, List, sym, refl}
use Rattle.std.specs.Cmp.Lexicographic.{pointwise}
use Rattle.std.specs.Bool.{Decides}
use Rattle.std.proofs.lemmas.Bool.Decides.{Decides-eqb}
use Rattle.std.proofs.lemmas.Slice.Eq.{slice_eq-Decides}

pub decided_same : (a b : Bool) (P : Type 0) → Decides a P → Decides b P → a ≡ b
decided_same true b P p q = sym (q.1 (p.0 refl))
decided_same false true P p q = p.1 (q.0 refl)
decided_same false false P p q = refl

-- lists of texts are compared unit by unit
pub texts_decided : (xs ys : List (List ℕ)) (r : Bool) → r ≡ pointwise (pointwise eqb) xs ys → Decides r (xs ≡ ys)
texts_decided = slice_eq-Decides (λ a b. slice_eq-Decides Decides-eqb a b _ refl)
