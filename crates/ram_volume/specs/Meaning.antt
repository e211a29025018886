-- The state that a RAM volume stands for.
use Rattle.std.specs.Prelude.{◌≡◌, ℕ, Bool, List, Some, None, Option}
use Rattle.std.proofs.Common.{arith}
use Rattle.volume.specs.State.{Due, Limits, Held, State}
use Rattle.volume.specs.declared.handle.Handle.{Handle}
use Rattle.block_store.specs.Files.{Files, capacity}
use Rattle.ram_tables.specs.Tables.{row, count, tree_of}
use Rattle.ram_tables.specs.Meaning.{rows_of, handles_of}
use Rattle.ram_tables.specs.declared.rows.Row.{Row}
use Rattle.ram_volume.specs.declared.types.RamVolume.{RamVolume}
use Rattle.ram_volume.specs.declared.types.Held.{Held as RamHeld}

-- 16 handles, 64 nodes with the root, names to 64 units
abbrev pub ram_limits : Limits
ram_limits = record { handles = 16; nodes = 64; name = 64 }

pub no_status : ◌≡◌ {A = Option ℕ} None (Some 0) → ⊥
no_status e = let z : ◌≡◌ {A = ℕ} 0 1 = cc in omega arith

-- nothing is ever due
abbrev pub nothing_due : Due
nothing_due = record { status = None; cap = None; size = None; failing = no_status }

abbrev pub held_of : List (Option Row) → Files → List (Option Handle) → Bool → Held
held_of rows files handles misused =
    record { nodes = tree_of rows files; node_count = count rows; handles = row handles; handle_count = count handles; limits = ram_limits; misused = misused }

-- the bytes of files are the store's
abbrev pub ram_held : {S : Type 0} → (S → Files) → RamHeld S → Held
ram_held files v = held_of (rows_of v.nodes) (files v.store) (handles_of v.handles) v.misused

-- so are the free blocks; a file's capacity is its own blocks and the free ones
abbrev pub ram_state : {S : Type 0} → (S → Files) → (S → ℕ) → RamVolume S → State
ram_state files free v = record { held = ram_held files v.held; reported = v.reported; capacity = capacity (files v.held.store) (free v.held.store); due = nothing_due }
