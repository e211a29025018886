-- How the rows change.
use Rattle.std.specs.Prelude.{◌≡◌, ℕ, ◌<◌, ◌≤◌, Bool, true, false, ◌⊎◌, List, Some, None, Option, Ok, Err, Result, ◌≢◌, slice_set}
use Rattle.volume.specs.Calls.{nameable}
use Rattle.volume.specs.Tree.{Name, directory, root, Holds}
use Rattle.ram_tables.specs.Tables.{row, count, name_of_row, tree_of, IsDirectory, IsEntry}
use Rattle.ram_tables.specs.Lookups.{Finds}
use Rattle.ram_tables.specs.declared.rows.Row.{Row}
use Rattle.ram_tables.specs.declared.rows.Entered.{Entered}
use Rattle.ram_tables.specs.declared.rows.Entered.TheVariants.{Found, Made}
use Rattle.ram_tables.specs.declared.rows.EnterError.{EnterError}
use Rattle.ram_tables.specs.declared.rows.EnterError.TheVariants.{NotADirectory, BadName, Full}

-- a tree with its root alone
pub record RootAlone (rows : List (Option Row)) : Type 0 where
  pub rooted : IsDirectory rows root
  pub alone : (n : ℕ) → (n ≢ root) → row rows n ≡ None

-- a row came at a number that had none: that of a name which its directory did not have
pub record Enlarged (rows : List (Option Row)) (d : ℕ) (c : Name) (kind : Bool) (n : ℕ) (after : List (Option Row)) : Type 0 where
  pub absent : Finds rows d c None
  pub proper : nameable 64 c ≡ true
  pub space : count rows < 64
  pub within : n < 64
  pub free : row rows n ≡ None
  pub new : Row
  pub parent : new.parent ≡ d
  pub called : name_of_row new ≡ c
  pub kinded : new.directory ≡ kind
  pub put : after ≡ slice_set rows n (Some new)

-- the node of a name in a directory, which is found or made
abbrev pub Enters : List (Option Row) → ℕ → Name → Bool → Result Entered EnterError → List (Option Row) → Type 0
Enters rows d c kind (Ok (Found n)) after = Finds rows d c (Some n) × (after ≡ rows)
Enters rows d c kind (Ok (Made n)) after = Enlarged rows d c kind n after
Enters rows d c kind (Err NotADirectory) after = ((bytes : ℕ → List ℕ) → Holds (tree_of rows bytes) d directory → ⊥) × (after ≡ rows)
Enters rows d c kind (Err BadName) after = Finds rows d c None × (nameable 64 c ≡ false) × (after ≡ rows)
Enters rows d c kind (Err Full) after = Finds rows d c None × (nameable 64 c ≡ true) × (64 ≤ count rows) × (after ≡ rows)

-- some entry of the node n
abbrev pub HasEntries : List (Option Row) → ℕ → Type 0
HasEntries rows n = (m : ℕ) × (c : Name) × IsEntry rows n c m

-- a row went that is not the root's and whose node had no entries
pub record Pruned (rows : List (Option Row)) (n : ℕ) (after : List (Option Row)) : Type 0 where
  pub inner : n ≡ root → ⊥
  pub old : Row
  pub there : row rows n ≡ Some old
  pub leaf : HasEntries rows n → ⊥
  pub put : after ≡ slice_set rows n None

-- a node is removed, unless it is the root, is not there or has entries
abbrev pub Removes : List (Option Row) → ℕ → Bool → List (Option Row) → Type 0
Removes rows n true after = Pruned rows n after
Removes rows n false after = ((n ≡ root) ⊎ ((row rows n ≡ None) ⊎ HasEntries rows n)) × (after ≡ rows)
