-- What is found in the rows, whatever bytes the files have.
use Rattle.std.specs.Prelude.{◌≡◌, ℕ, ◌+◌, ◌<◌, true, false, ◌⊎◌, List, [], ◌∷◌, Some, None, Option}
use Rattle.volume.specs.Calls.{undotted}
use Rattle.volume.specs.Records.{Next, AtEnd}
use Rattle.volume.specs.Tree.{Name, Route, is_dots, directory, Holds, Entry, Leads}
use Rattle.ram_tables.specs.Tables.{row, name_of_row, content_of, tree_of, IsDirectory, IsEntry}
use Rattle.ram_tables.specs.declared.rows.Row.{Row}
use Rattle.ram_tables.specs.declared.rows.Listed.{Listed}
use Rattle.ram_tables.specs.declared.rows.Listed.TheVariants.{Dot, DotDot, Child}
use Rattle.ram_tables.specs.declared.rows.Led.{Led}
use Rattle.ram_tables.specs.declared.rows.Led.TheVariants.{Own, Last}

-- a row is that of an entry of the directory d with a name
pub record Named (d : ℕ) (c : Name) (o : Option Row) : Type 0 where
  pub row : Row
  pub there : o ≡ Some row
  pub parent : row.parent ≡ d
  pub called : name_of_row row ≡ c

-- the node of a directory's entry with a name, if there is one
abbrev pub Finds : List (Option Row) → ℕ → Name → Option ℕ → Type 0
Finds rows d c (Some n) = IsEntry rows d c n
Finds rows d c None = (bytes : ℕ → List ℕ) (n : ℕ) → Entry (tree_of rows bytes) d c n → ⊥

-- what a directory has at a position, as a volume's directory reads tell it
abbrev pub Lists : List (Option Row) → ℕ → ℕ → Option Listed → Type 0
Lists rows d p (Some Dot) = (bytes : ℕ → List ℕ) → Next (tree_of rows bytes) d p 0 (46 ∷ []) directory
Lists rows d p (Some DotDot) = (bytes : ℕ → List ℕ) → Next (tree_of rows bytes) d p 1 (46 ∷ 46 ∷ []) directory
Lists rows d p (Some (Child n)) =
    (x : Row) × (row rows n ≡ Some x) × (n < 64) × ((bytes : ℕ → List ℕ) → Next (tree_of rows bytes) d p (n + 2) (name_of_row x) (content_of x (bytes n)))
Lists rows d p None = (bytes : ℕ → List ℕ) → AtEnd (tree_of rows bytes) d p

-- the directory that one component leads to from the directory d
abbrev pub StepsTo : List (Option Row) → ℕ → Name → Option ℕ → Type 0
StepsTo rows d c (Some n) = (is_dots c ≡ false) × ((bytes : ℕ → List ℕ) → Entry (tree_of rows bytes) d c n × Holds (tree_of rows bytes) n directory)
StepsTo rows d c None = (is_dots c ≡ true) ⊎ ((bytes : ℕ → List ℕ) (n : ℕ) → Entry (tree_of rows bytes) d c n → Holds (tree_of rows bytes) n directory → ⊥)

-- the components before the last lead from a directory to the directory d, and none is "." or ".."
pub record Reached (rows : List (Option Row)) (from : ℕ) (p : Route) (d : ℕ) (last : Name) : Type 0 where
  pub front : Route
  pub split : p ≡ last ∷ front
  pub plain : undotted p ≡ true
  pub led : (bytes : ℕ → List ℕ) → Leads (tree_of rows bytes) from front d
  pub dir : IsDirectory rows d

-- they lead to no directory
pub record Lost (rows : List (Option Row)) (from : ℕ) (p : Route) : Type 0 where
  pub front : Route
  pub last : Name
  pub split : p ≡ last ∷ front
  pub nowhere : (bytes : ℕ → List ℕ) (d : ℕ) → Leads (tree_of rows bytes) from front d → Holds (tree_of rows bytes) d directory → ⊥

-- where a path leads from a node
abbrev pub LeadsTo : List (Option Row) → ℕ → Route → Option Led → Type 0
LeadsTo rows from p (Some Own) = p ≡ []
LeadsTo rows from p None = (undotted p ≡ false) ⊎ Lost rows from p
LeadsTo rows from p (Some (Last d c)) = Reached rows from p d c.now
