-- The tree of a volume: nodes by number, each with the one entry that names it.
use Rattle.std.specs.Prelude.{◌≡◌, ℕ, zero, suc, ◌≤◌, Bool, true, false, cond, not, ◌&&◌, List, [], ◌∷◌, reverse, length, Some, None, Option, ◌==◌, ◌≢◌, nat_le}
use Rattle.std.specs.List.{list_all}
use Rattle.uefi_types.specs.Units.{is_text}
use Rattle.uefi_path.specs.Components.{components}
use Rattle.uefi_path.specs.Validity.{denied}

-- a name: its UCS-2 units
abbrev pub Name : Type 0
Name = List ℕ

-- the way to a node: the components of a path, the last one first
abbrev pub Route : Type 0
Route = List Name

abbrev pub route_of : List ℕ → Route
route_of units = reverse (components units)

-- "." and ".."
abbrev pub is_dots : Name → Bool
is_dots [] = false
is_dots (u ∷ []) = u == 46
is_dots (u ∷ (v ∷ [])) = u == 46 && v == 46
is_dots (u ∷ (v ∷ (w ∷ ws))) = false

-- what can be a name: 1 to 255 units, none denied or a surrogate, and not "." or ".."
abbrev pub is_name : Name → Bool
is_name c = nat_le 1 (length c) && nat_le (length c) 255 && list_all (λ u. not (denied u)) c && is_text c && not (is_dots c)

pub data Content : Type 0 where
  directory : Content
  file : List ℕ → Content

-- a node with its entry: the directory that has the entry, the name, and the entry's place in that directory
pub record Node : Type 0 where
  pub parent : ℕ
  pub name : Name
  pub place : ℕ
  pub content : Content

abbrev pub Nodes : Type 0
Nodes = ℕ → Option Node

-- the root's number; it has no entry, and what stands in the fields of one means nothing
abbrev pub root : ℕ
root = 0

pub record Holds (t : Nodes) (n : ℕ) (c : Content) : Type 0 where
  pub node : Node
  pub there : t n ≡ Some node
  pub content : node.content ≡ c

-- the directory d has an entry that names n so
pub record Entry (t : Nodes) (d : ℕ) (name : Name) (n : ℕ) : Type 0 where
  pub node : Node
  pub there : t n ≡ Some node
  pub inner : n ≡ root → ⊥
  pub parent : node.parent ≡ d
  pub called : node.name ≡ name

-- a route leads from d to n
abbrev pub Leads : Nodes → ℕ → Route → ℕ → Type 0
Leads t d [] n = n ≡ d
Leads t d (c ∷ p) n = (m : ℕ) × Entry t m c n × Leads t d p m

-- a file that a route leads to from the root, with its bytes
pub record File (t : Nodes) (n : ℕ) (route : Route) (bytes : List ℕ) : Type 0 where
  pub holds : Holds t n (file bytes)
  pub led : Leads t root route n

-- a tree: the root is a directory, every other node has its entry in a directory, names and places of
-- neighbours are apart, names are names, places are from 2 up, and every node is reached from the root
pub record Tree (t : Nodes) : Type 0 where
  pub rooted : Holds t root directory
  pub parents : (n : ℕ) (x : Node) → t n ≡ Some x → (n ≢ root) → Holds t x.parent directory
  pub names_apart : (d m n : ℕ) (c : Name) → Entry t d c m → Entry t d c n → m ≡ n
  pub places_apart : (m n : ℕ) (x y : Node) → t m ≡ Some x → t n ≡ Some y → (m ≢ root) → (n ≢ root) → x.parent ≡ y.parent → x.place ≡ y.place → m ≡ n
  pub places_above : (n : ℕ) (x : Node) → t n ≡ Some x → (n ≢ root) → 2 ≤ x.place
  pub named : (n : ℕ) (x : Node) → t n ≡ Some x → (n ≢ root) → is_name x.name ≡ true
  pub reached : (n : ℕ) (x : Node) → t n ≡ Some x → (p : Route) × Leads t root p n

-- a table changed at one number
abbrev pub put : {A : Type 0} → (ℕ → Option A) → ℕ → Option A → ℕ → Option A
put f k x n = cond (n == k) x (f n)

-- so many numbers of a table hold something
abbrev pub Counts : {A : Type 0} → (ℕ → Option A) → ℕ → Type 0
Counts f zero = (n : ℕ) → f n ≡ None
Counts {A} f (suc c) = (k : ℕ) × (x : A) × (f k ≡ Some x) × Counts (put f k None) c
