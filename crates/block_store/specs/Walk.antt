-- Chains of blocks: `next` names the block after each, `first` the first block of each chain, `held` how many blocks each chain has,
-- and `last` the last block of each file's chain. The chains 0 to 63 are those of the files, and 64 that of the free blocks.
use Rattle.std.specs.Prelude.{◌≡◌, ℕ, zero, suc, ◌-◌, ◌<◌, List, [], ◌∷◌, ◌++◌, map, sum, slice_index}
use Rattle.block_store.specs.Files.{blocks_for}
use Rattle.block_store.specs.declared.types.Chain.{Chain}
use Rattle.block_store.specs.declared.types.File.{File}

-- these lists, as the files and the free chain have them
abbrev pub firsts : List File → Chain → List ℕ
firsts files free = map (λ f. f.chain.first) files ++ free.first ∷ []

abbrev pub helds : List File → Chain → List ℕ
helds files free = map (λ f. f.chain.held) files ++ free.held ∷ []

abbrev pub lasts : List File → List ℕ
lasts files = map (λ f. f.last) files

-- the length of each file, in bytes
abbrev pub sizes : List File → List ℕ
sizes files = map (λ f. f.size) files

-- how many blocks there are: those of the files, and the free ones
abbrev pub count : List File → Chain → ℕ
count files free = sum (helds files free)

-- the block that stands k steps after the block a
abbrev pub walk : List ℕ → ℕ → ℕ → ℕ
walk next a zero = a
walk next a (suc k) = slice_index next (walk next a k)

-- the block k of the chain f
abbrev pub block_at : List ℕ → List ℕ → ℕ → ℕ → ℕ
block_at next first f k = walk next (slice_index first f) k

-- each chain's blocks are among the first n
abbrev pub Within : List ℕ → List ℕ → List ℕ → ℕ → Type 0
Within next first held n = (f k : ℕ) → k < slice_index held f → block_at next first f k < n

-- no block stands twice: where the block k of the chain f is the block j of the chain g, these are one place (the tuple is f, k, g, j)
abbrev pub Apart : List ℕ → List ℕ → List ℕ → Type 0
Apart next first held =
    (t : ℕ × ℕ × ℕ × ℕ) → (t.1 < slice_index held t.0) × (t.3 < slice_index held t.2) × (block_at next first t.0 t.1 ≡ block_at next first t.2 t.3) →
    (t.0 ≡ t.2) × (t.1 ≡ t.3)

-- the last block of each file that has one is noted
abbrev pub Tailed : List ℕ → List ℕ → List ℕ → List ℕ → Type 0
Tailed next first last held = (f : ℕ) → f < 64 → 0 < slice_index held f → slice_index last f ≡ block_at next first f (slice_index held f - 1)

-- each file has the blocks that its length asks for, and no more
abbrev pub Sized : List ℕ → List ℕ → Type 0
Sized size held = (f : ℕ) → f < 64 → slice_index held f ≡ blocks_for (slice_index size f)
