-- What the chained store keeps: the bytes of each file, and how many blocks are free.
use Rattle.std.specs.Prelude.{◌≡◌, ℕ, ◌+◌, ◌-◌, ◌*◌, ◌/◌, ◌%◌, ◌<◌, ◌≤◌, max, ◌⊎◌, List, map, length, vec_items, ◌≢◌, slice_index}
use Rattle.std.specs.List.{range_with_len}
use Rattle.block_store.specs.Files.{Files, blocks_for}
use Rattle.block_store.specs.Places.{placed, held_by, blocks_in, size_in}
use Rattle.block_store.specs.declared.types.ChainedStore.{ChainedStore}

-- where the byte i of the file f lies in the memory
abbrev pub address : ChainedStore → ℕ → ℕ → ℕ
address b f i = 512 * placed b.chains f (i / 512) + i % 512

-- the byte i of the file f
abbrev pub byte_of : ChainedStore → ℕ → ℕ → ℕ
byte_of b f i = slice_index (vec_items b.memory) (address b f i)

-- the length of the file f
abbrev pub size_of : ChainedStore → ℕ → ℕ
size_of b f = size_in b.chains f

-- the bytes of the file f
abbrev pub contents_of : ChainedStore → Files
contents_of b f = map (byte_of b f) (range_with_len 0 (size_of b f))

-- how many blocks there are
abbrev pub blocks_of : ChainedStore → ℕ
blocks_of b = blocks_in b.chains

-- how many blocks are free
abbrev pub free_of : ChainedStore → ℕ
free_of b = held_by b.chains 64

-- as many bytes as the file's own blocks and the free ones hold
abbrev pub reach : ChainedStore → ℕ → ℕ
reach b f = 512 * (held_by b.chains f + free_of b)

-- From b to d the file f has n bytes or more, whatever those past its old end are, and nothing else is changed.
pub record Stretched (b d : ChainedStore) (f n : ℕ) : Type 0 where
  pub mine : size_of d f ≡ max (size_of b f) n
  pub others : (g : ℕ) → g < 64 → (g ≢ f) → size_of d g ≡ size_of b g
  pub bytes : (g i : ℕ) → g < 64 → i < size_of b g → byte_of d g i ≡ byte_of b g i
  pub spare : free_of d + blocks_for (size_of d f) ≡ free_of b + blocks_for (size_of b f)
  pub same : blocks_of d ≡ blocks_of b

-- From b to d the file f has the bytes xs from p on, and nothing else is changed.
pub record Overwritten (b d : ChainedStore) (f p : ℕ) (xs : List ℕ) : Type 0 where
  pub chains : d.chains ≡ b.chains
  pub inside : (i : ℕ) → p ≤ i → i < p + length xs → byte_of d f i ≡ slice_index xs (i - p)
  pub outside : (g i : ℕ) → g < 64 → i < size_of b g → (g ≢ f) ⊎ ((i < p) ⊎ (p + length xs ≤ i)) → byte_of d g i ≡ byte_of b g i
