-- What a volume tells of its nodes, as records.
use Rattle.std.specs.Prelude.{◌≡◌, ℕ, ◌≤◌, cond, List, [], ◌∷◌, length, Some, None, Option, ◌==◌, ◌≢◌}
use Rattle.uefi_time.specs.declared.time.Time.{Time}
use Rattle.uefi_info.specs.Infos.{file_info_bytes}
use Rattle.volume.specs.Tree.{Name, Content, directory, file, Node, Nodes, root}

-- a directory has the attribute 10h, a file none
abbrev pub attribute_of : Content → ℕ
attribute_of directory = 16
attribute_of (file bs) = 0

-- a file's size, or that in its place; a directory has none
abbrev pub size_of : Option ℕ → Content → ℕ
size_of other directory = 0
size_of None (file bs) = length bs
size_of (Some n) (file bs) = n

-- the name by which a node goes, which is empty for the root
abbrev pub name_of : ℕ → Node → Name
name_of n x = cond (n == root) [] x.name

-- a record of a content under a name; its physical size and its times are the volume's choice
pub record RecordOf (other : Option ℕ) (name : Name) (c : Content) (bytes : List ℕ) : Type 0 where
  pub physical : ℕ
  pub created : Time
  pub accessed : Time
  pub modified : Time
  pub is : bytes ≡ file_info_bytes (size_of other c) physical created accessed modified (attribute_of c) name

-- what stands in a directory at a place: its entries, and in any but the root "." at 0 and ".." at 1
pub data Stands (t : Nodes) (d place : ℕ) (name : Name) (c : Content) : Type 0 where
  itself : (d ≢ root) → place ≡ 0 → name ≡ 46 ∷ [] → c ≡ directory → Stands t d place name c
  above : (d ≢ root) → place ≡ 1 → name ≡ 46 ∷ 46 ∷ [] → c ≡ directory → Stands t d place name c
  entry : (n : ℕ) (x : Node) → t n ≡ Some x → (n ≢ root) → x.parent ≡ d → place ≡ x.place → name ≡ x.name → c ≡ x.content → Stands t d place name c

-- the next in a directory from a position on: the one of the least place that is not below it
pub record Next (t : Nodes) (d position place : ℕ) (name : Name) (c : Content) : Type 0 where
  pub stands : Stands t d place name c
  pub from : position ≤ place
  pub least : (q : ℕ) (other : Name) (k : Content) → Stands t d q other k → position ≤ q → place ≤ q

-- there is none
abbrev pub AtEnd : Nodes → ℕ → ℕ → Type 0
AtEnd t d position = (q : ℕ) (name : Name) (c : Content) → Stands t d q name c → position ≤ q → ⊥
