-- What a table of chains says: the block at each place, how many blocks each chain has, and how long each file is.
use Rattle.std.specs.Prelude.{◌≡◌, ℕ, ◌+◌, ◌<◌, ◌≢◌, slice_index}
use Rattle.block_store.specs.Walk.{firsts, helds, sizes, count, block_at}
use Rattle.block_store.specs.declared.types.Chains.{Chains}

-- the block k of the chain f
abbrev pub placed : Chains → ℕ → ℕ → ℕ
placed c f k = block_at c.next (firsts c.files c.free) f k

-- how many blocks the chain f has
abbrev pub held_by : Chains → ℕ → ℕ
held_by c f = slice_index (helds c.files c.free) f

-- how many blocks there are
abbrev pub blocks_in : Chains → ℕ
blocks_in c = count c.files c.free

-- the length of the file f
abbrev pub size_in : Chains → ℕ → ℕ
size_in c f = slice_index (sizes c.files) f

-- From c to d the file f has n blocks more, taken from the free ones (the chain 64), and nothing else is changed.
pub record Grown (c d : Chains) (f n : ℕ) : Type 0 where
  pub kept : (g k : ℕ) → g < 64 → k < held_by c g → placed d g k ≡ placed c g k
  pub mine : held_by d f ≡ held_by c f + n
  pub others : (g : ℕ) → g < 64 → (g ≢ f) → held_by d g ≡ held_by c g
  pub spare : held_by d 64 + n ≡ held_by c 64
  pub lengths : (g : ℕ) → size_in d g ≡ size_in c g
  pub same : blocks_in d ≡ blocks_in c

-- From c to d the length of the file f is n, and nothing else is changed.
pub record Resized (c d : Chains) (f n : ℕ) : Type 0 where
  pub kept : (g k : ℕ) → placed d g k ≡ placed c g k
  pub counts : (g : ℕ) → held_by d g ≡ held_by c g
  pub mine : size_in d f ≡ n
  pub others : (g : ℕ) → (g ≢ f) → size_in d g ≡ size_in c g
  pub same : blocks_in d ≡ blocks_in c

-- From c to d the file f has given its blocks to the free ones, and nothing else is changed.
pub record Emptied (c d : Chains) (f : ℕ) : Type 0 where
  pub kept : (g k : ℕ) → g < 64 → (g ≢ f) → k < held_by c g → placed d g k ≡ placed c g k
  pub mine : held_by d f ≡ 0
  pub others : (g : ℕ) → g < 64 → (g ≢ f) → held_by d g ≡ held_by c g
  pub spare : held_by d 64 ≡ held_by c 64 + held_by c f
  pub lengths : (g : ℕ) → size_in d g ≡ size_in c g
  pub same : blocks_in d ≡ blocks_in c

-- Each of the n blocks is free, and each file empty.
pub record Fresh (c : Chains) (n : ℕ) : Type 0 where
  pub files : (g : ℕ) → g < 64 → held_by c g ≡ 0
  pub spare : held_by c 64 ≡ n
  pub lengths : (g : ℕ) → size_in c g ≡ 0
  pub same : blocks_in c ≡ n
