-- What a block store keeps: files by slot, each a list of bytes, in blocks of 512 bytes.
use Rattle.std.specs.Prelude.{◌≡◌, ℕ, zero, suc, ◌+◌, ◌*◌, ◌/◌, ◌%◌, ◌<◌, Bool, cond, ◌&&◌, List, [], ◌++◌, length, take, drop, Some, None, Option, ◌==◌, nat_le, nat_lt, slice_index}
use Rattle.uefi_types.specs.Refusal.{Refusal}

-- the bytes of the file in each slot; there are 64 slots, and past them nothing
abbrev pub Files : Type 0
Files = ℕ → List ℕ

-- every file is empty
abbrev pub no_files : Files
no_files slot = []

-- the same, but for the file in one slot
abbrev pub replaced : Files → ℕ → List ℕ → Files
replaced files slot bytes n = cond (n == slot) bytes (files n)

-- the first n of some bytes, written over and past others from a position on; behind the end, where the position is past it
abbrev pub overwritten : List ℕ → ℕ → ℕ → List ℕ → List ℕ
overwritten old p n bytes = take p old ++ (take n bytes ++ drop (p + n) old)

-- so many blocks hold n bytes
abbrev pub blocks_for : ℕ → ℕ
blocks_for n = (n + 511) / 512

-- how many blocks the files in the first n slots have
unfoldable pub blocks_used : Files → ℕ → ℕ
blocks_used files zero = 0
blocks_used files (suc n) = blocks_used files n + blocks_for (length (files n))

-- the most bytes that a file can have: as many as its own blocks and the free ones hold
abbrev pub capacity : Files → ℕ → ℕ → ℕ
capacity files free slot = cond (nat_lt slot 64) (512 * (blocks_for (length (files slot)) + free)) 0

-- a memory of n bytes is a store's: from 1 to 128 whole blocks
abbrev pub is_memory : ℕ → Bool
is_memory n = nat_le 512 n && nat_le n 65536 && n % 512 == 0

abbrev pub bad_memory : Refusal
bad_memory = record { number = 23; values = [] }

-- the refusal of a memory of n bytes, if it is refused
abbrev pub memory_refusal : ℕ → Option Refusal
memory_refusal n = cond (is_memory n) None (Some bad_memory)

-- A memory of n blocks has the bytes of the files: each block of a file stands in it as one of its blocks, and no two as the same.
pub record Kept (files : Files) (n : ℕ) (memory : List ℕ) : Type 0 where
  pub place : ℕ → ℕ → ℕ
  pub within : (slot i : ℕ) → i < length (files slot) → place slot (i / 512) < n
  pub apart : (slot i other j : ℕ) → i < length (files slot) → j < length (files other) → place slot (i / 512) ≡ place other (j / 512) → (slot ≡ other) × (i / 512 ≡ j / 512)
  pub bytes : (slot i : ℕ) → i < length (files slot) → slice_index memory (512 * place slot (i / 512) + i % 512) ≡ slice_index (files slot) i
