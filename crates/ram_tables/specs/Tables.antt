-- What the rows of the two tables stand for: a row is a node or a handle by its index.
use Rattle.std.specs.Prelude.{◌≡◌, ℕ, ◌+◌, ◌<◌, ◌≤◌, Bool, cond, List, take, is_some, Some, None, count_by, Option, MatchOption, slice_index_or}
use Rattle.std.specs.Fn.{Shared, FnReturns}
use Rattle.std.specs.Borrow.{Bor}
use Rattle.volume.specs.Tree.{Name, Content, directory, file, Node, Nodes, Holds, Entry, Tree}
use Rattle.ram_tables.specs.declared.rows.Row.{Row}

-- what stands at an index, and nothing past the table
abbrev pub row : {A : Type 0} → List (Option A) → ℕ → Option A
row xs i = slice_index_or xs i None

abbrev pub taken : {A : Type 0} → Option A → Bool
taken o = is_some o

-- how many rows are taken
abbrev pub count : {A : Type 0} → List (Option A) → ℕ
count xs = count_by taken xs

-- a test of a number and a row may answer so
abbrev pub Says : {F A : Type 0} → Shared F (ℕ × (Bor A × Unit {0})) Bool → F → ℕ → A → Bool → Type 0
Says {F} {A} g test n x b = (p : Bor A) × (p.now ≡ x) × FnReturns g test (n, (p, tt)) b

-- the first number whose row is a Yes; the rows before it, or all, are a No
abbrev pub FirstThat : {A : Type 0} → List (Option A) → (ℕ → A → Type 0) → (ℕ → A → Type 0) → Option ℕ → Type 0
FirstThat {A} xs Yes No r =
    MatchOption r ((k : ℕ) (x : A) → row xs k ≡ Some x → No k x)
    (λ n. ((x : A) × (row xs n ≡ Some x) × Yes n x) × ((k : ℕ) (x : A) → k < n → row xs k ≡ Some x → No k x))

abbrev pub name_of_row : Row → Name
name_of_row r = take r.len r.name

-- what a node holds whose file would have these bytes
abbrev pub content_of : Row → List ℕ → Content
content_of r bytes = cond r.directory directory (file bytes)

-- the node of a row: its entry's place is its index and two
abbrev pub node_of : ℕ → Row → List ℕ → Node
node_of n r bytes = record { parent = r.parent; name = name_of_row r; place = n + 2; content = content_of r bytes }

abbrev pub node_at : ℕ → Option Row → List ℕ → Option Node
node_at n (Some r) bytes = Some (node_of n r bytes)
node_at n None bytes = None

-- the tree of the rows, each file having the bytes of its number
abbrev pub tree_of : List (Option Row) → (ℕ → List ℕ) → Nodes
tree_of rows bytes n = node_at n (row rows n) (bytes n)

-- a node that is there and is a directory
abbrev pub IsDirectory : List (Option Row) → ℕ → Type 0
IsDirectory rows n = (bytes : ℕ → List ℕ) → Holds (tree_of rows bytes) n directory

-- the directory d has an entry that names n so
abbrev pub IsEntry : List (Option Row) → ℕ → Name → ℕ → Type 0
IsEntry rows d c n = (bytes : ℕ → List ℕ) → Entry (tree_of rows bytes) d c n

-- what always holds of the rows: they are a tree, whatever bytes the files have, and each name has its units
pub record Whole (rows : List (Option Row)) : Type 0 where
  pub tree : (bytes : ℕ → List ℕ) → Tree (tree_of rows bytes)
  pub short : (i : ℕ) (r : Row) → row rows i ≡ Some r → r.len ≤ 64
