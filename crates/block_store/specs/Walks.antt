-- Laws of `walk`: one step more, one step less, and what a write to `next` leaves.
use Rattle.std.specs.Prelude.{◌≡◌, ℕ, zero, suc, ◌+◌, ◌<◌, List, slice_index, refl}
use Rattle.std.proofs.Common.{ap, ◌∙◌, add-zero, add-suc, add-one, arith}
use Rattle.block_store.specs.Walk.{walk}

pub walk_more : (next : List ℕ) (a k : ℕ) → walk next a (k + 1) ≡ slice_index next (walk next a k)
walk_more next a k = rw add-one

-- the walk from the second block
pub walk_shift : (next : List ℕ) (a k : ℕ) → walk next (slice_index next a) k ≡ walk next a (suc k)
walk_shift next a zero = refl
walk_shift next a (suc k) = ap (λ x. slice_index next x) (walk_shift next a k)

pub walk_add : (next : List ℕ) (a j k : ℕ) → walk next a (j + k) ≡ walk next (walk next a j) k
walk_add next a j zero = ap (walk next a) (add-zero j)
walk_add next a j (suc k) = rw add-suc (ap (λ x. slice_index next x) (walk_add next a j k))

-- a table that names the same next block at each block that the walk comes by
pub walk_same : (M next : List ℕ) (a k : ℕ) → ((j : ℕ) → j < k → slice_index M (walk next a j) ≡ slice_index next (walk next a j)) → walk M a k ≡ walk next a k
walk_same M next a zero h = refl
walk_same M next a (suc k) h = ap (λ x. slice_index M x) (walk_same M next a k (λ j l. h j (omega arith))) ∙ h k (omega arith)
