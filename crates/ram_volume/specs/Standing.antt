-- How the two tables hang together.
use Rattle.std.specs.Prelude.{◌≡◌, ℕ, ◌<◌, Bool, true, false, List, Some, None, Option, ◌≢◌}
use Rattle.volume.specs.declared.handle.Handle.{Handle}
use Rattle.volume.specs.declared.handle.NodeKind.{NodeKind}
use Rattle.volume.specs.declared.handle.NodeKind.TheVariants.{File, Directory}
use Rattle.ram_tables.specs.Tables.{row}
use Rattle.ram_tables.specs.declared.rows.Row.{Row}
use Rattle.ram_volume.specs.declared.at.At.{At}

-- a node is there: a fact of its number and the table together, which no type of a number can keep
abbrev pub There : List (Option Row) → ℕ → Type 0
There rows n = row rows n ≢ None

-- each handle's node is there
abbrev pub Standing : List (Option Row) → List (Option Handle) → Type 0
Standing rows handles = (k : ℕ) (h : Handle) → row handles k ≡ Some h → There rows h.node

abbrev pub is_directory : NodeKind → Bool
is_directory Directory = true
is_directory File = false

-- an open handle by its number, on a directory or on a file
pub record On (rows : List (Option Row)) (handles : List (Option Handle)) (at : At) : Type 0 where
  pub opened : row handles at.number ≡ Some at.handle
  pub node : Row
  pub there : row rows at.handle.node ≡ Some node
  pub kinded : node.directory ≡ is_directory at.kind

-- a number that no handle has
pub record Vacant (handles : List (Option Handle)) (k : ℕ) : Type 0 where
  pub within : k < 16
  pub free : row handles k ≡ None

-- what stands at the number k: an open handle, or none
abbrev pub StandsAt : List (Option Row) → List (Option Handle) → ℕ → Option At → Type 0
StandsAt rows handles k None = row handles k ≡ None
StandsAt rows handles k (Some at) = (at.number ≡ k) × On rows handles at
