-- The calls of a volume, and what each may answer and leave.
use Rattle.std.specs.Prelude.{◌≡◌, ℕ, ◌+◌, ◌-◌, ◌<◌, ◌≤◌, min, Bool, true, false, cond, ◌&&◌, ◌⊎◌, List, [], ◌∷◌, length, take, drop, Some, None, Option, ◌==◌, ◌≢◌, nat_le}
use Rattle.std.specs.List.{list_all}
use Rattle.uefi_types.specs.Modes.{has_bit, directory_bit}
use Rattle.uefi_result.specs.StatusCodes.{invalid_parameter, unsupported, buffer_too_small, device_error, out_of_resources, volume_full, not_found, access_denied, warn_delete_failure}
use Rattle.uefi_types.specs.declared.modes.FileMode.{FileMode}
use Rattle.uefi_types.specs.declared.modes.FileMode.TheVariants.{Read, ReadWrite, CreateReadWrite}
use Rattle.volume.specs.Tree.{Name, Route, is_dots, is_name, Content, directory, file, Node, Nodes, root, Holds, Entry, Leads}
use Rattle.volume.specs.State.{Due, Held, State, misuse, opened, closed, moved, changed, created, removed, overwritten}
use Rattle.volume.specs.Records.{size_of, name_of, RecordOf, Next, AtEnd}
use Rattle.volume.specs.declared.handle.Handle.{Handle}
use Rattle.volume.specs.declared.handle.Reported.{Reported}
use Rattle.volume.specs.declared.handle.NodeKind.{NodeKind}
use Rattle.volume.specs.declared.handle.NodeKind.TheVariants as kinds

-- the calls of the Simple File System and the File protocol; a buffer counts by its length
pub data Call : Type 0 where
  open_volume : Call
  open_from : (handle : ℕ) (route : Route) (mode : FileMode) (attribute : ℕ) → Call
  close : (handle : ℕ) → Call
  delete : (handle : ℕ) → Call
  get_position : (handle : ℕ) → Call
  get_info : (handle : ℕ) (space : ℕ) → Call
  read : (handle : ℕ) (space : ℕ) → Call
  write : (handle : ℕ) (bytes : List ℕ) → Call
  flush : (handle : ℕ) → Call

-- an answer: accepted, with a number and the bytes delivered, or refused, with a status and a length
pub data Answer : Type 0 where
  accepted : ℕ → List ℕ → Answer
  refused : ℕ → ℕ → Answer

-- a refusal that leaves everything
pub record Refused (status length : ℕ) (v : Held) (a : Answer) (w : Held) : Type 0 where
  pub answer : a ≡ refused status length
  pub held : w ≡ v

abbrev pub writes : FileMode → Bool
writes Read = false
writes ReadWrite = true
writes CreateReadWrite = true

-- a new handle, at the position 0
abbrev pub on : ℕ → Bool → Handle
on n writable = record { node = n; position = 0; writable = writable }

-- a handle came to stand at a number that had none; the volume chose the number
pub record Opened (h : Handle) (before : Held) (a : Answer) (w : Held) : Type 0 where
  pub number : ℕ
  pub fresh : before.handles number ≡ None
  pub answer : a ≡ accepted number []
  pub held : w ≡ opened number h before

-- a call that names a handle: one that is not open is a misuse; then a due status refuses; else the call goes on.
-- `said` is how a due status is answered, and `left` what it leaves
pub data Through (v : Held) (refuses : Option ℕ) (k : ℕ) (said : ℕ → ℕ) (left : Held) (Goes : Handle → Answer → Held → Type 0) (a : Answer) (w : Held) : Type 0 where
  misused : v.handles k ≡ None → a ≡ refused device_error 0 → w ≡ misuse v → Through v refuses k said left Goes a w
  due : (h : Handle) (s : ℕ) → v.handles k ≡ Some h → refuses ≡ Some s → a ≡ refused (said s) 0 → w ≡ left → Through v refuses k said left Goes a w
  goes : (h : Handle) → v.handles k ≡ Some h → refuses ≡ None → Goes h a w → Through v refuses k said left Goes a w

abbrev pub itself : ℕ → ℕ
itself s = s

-- get_position answers no due UNSUPPORTED, which would say that the handle is a directory
abbrev pub not_unsupported : ℕ → ℕ
not_unsupported s = cond (s == unsupported) device_error s

-- the root is opened, not for writing
pub data OpenVolume (v : Held) (refuses : Option ℕ) (a : Answer) (w : Held) : Type 0 where
  due : (s : ℕ) → refuses ≡ Some s → Refused s 0 v a w → OpenVolume v refuses a w
  spent : refuses ≡ None → v.limits.handles ≤ v.handle_count → Refused out_of_resources 0 v a w → OpenVolume v refuses a w
  opens : refuses ≡ None → v.handle_count < v.limits.handles → Opened (on root false) v a w → OpenVolume v refuses a w

-- what can be a name on a volume whose names have at most so many units
abbrev pub nameable : ℕ → Name → Bool
nameable most c = is_name c && nat_le (length c) most

-- no component is "." or ".."
abbrev pub undotted : Route → Bool
undotted p = list_all (λ c. cond (is_dots c) false true) p

-- a node made in the directory d: it has no node's number, and an entry with a place of its own
pub record Made (t : Nodes) (d : ℕ) (last : Name) (attribute : ℕ) (n : ℕ) (x : Node) : Type 0 where
  pub free : t n ≡ None
  pub parent : x.parent ≡ d
  pub name : x.name ≡ last
  pub above : 2 ≤ x.place
  pub apart : (m : ℕ) (y : Node) → t m ≡ Some y → (m ≢ root) → y.parent ≡ d → y.place ≢ x.place
  pub content : x.content ≡ cond (has_bit directory_bit attribute) directory (file [])

-- what the last component of a path does in the directory d that those before it lead to
pub data Ends (v : Held) (d : ℕ) (last : Name) (m : FileMode) (t : ℕ) (a : Answer) (w : Held) : Type 0 where
  found : (n : ℕ) → Entry v.nodes d last n → Opened (on n (writes m)) v a w → Ends v d last m t a w
  absent : ((n : ℕ) → Entry v.nodes d last n → ⊥) → (m ≢ CreateReadWrite) → Refused not_found 0 v a w → Ends v d last m t a w
  no_name : ((n : ℕ) → Entry v.nodes d last n → ⊥) → m ≡ CreateReadWrite → nameable v.limits.name last ≡ false → Refused invalid_parameter 0 v a w → Ends v d last m t a w
  full : ((n : ℕ) → Entry v.nodes d last n → ⊥) → m ≡ CreateReadWrite → nameable v.limits.name last ≡ true → v.limits.nodes ≤ v.node_count → Refused volume_full 0 v a w → Ends v d last m t a w
  makes : ((n : ℕ) → Entry v.nodes d last n → ⊥) → m ≡ CreateReadWrite → nameable v.limits.name last ≡ true → v.node_count < v.limits.nodes → (n : ℕ) (x : Node) → Made v.nodes d last t n x → Opened (on n (writes m)) (created n x v) a w → Ends v d last m t a w

-- where a path leads from a directory: with no components, to the directory itself
pub data Walk (v : Held) (from : ℕ) (p : Route) (m : FileMode) (t : ℕ) (a : Answer) (w : Held) : Type 0 where
  own : p ≡ [] → Opened (on from (writes m)) v a w → Walk v from p m t a w
  dotted : undotted p ≡ false → Refused not_found 0 v a w → Walk v from p m t a w
  lost : (front : Route) (last : Name) → p ≡ last ∷ front → ((d : ℕ) → Leads v.nodes from front d → Holds v.nodes d directory → ⊥) → Refused not_found 0 v a w → Walk v from p m t a w
  ends : (front : Route) (last : Name) (d : ℕ) → p ≡ last ∷ front → undotted p ≡ true → Leads v.nodes from front d → Holds v.nodes d directory → Ends v d last m t a w → Walk v from p m t a w

pub data OpenFrom (v : Held) (p : Route) (m : FileMode) (t : ℕ) (h : Handle) (a : Answer) (w : Held) : Type 0 where
  spent : v.limits.handles ≤ v.handle_count → Refused out_of_resources 0 v a w → OpenFrom v p m t h a w
  no_directory : v.handle_count < v.limits.handles → (bs : List ℕ) → Holds v.nodes h.node (file bs) → Refused unsupported 0 v a w → OpenFrom v p m t h a w
  walks : v.handle_count < v.limits.handles → Holds v.nodes h.node directory → Walk v h.node p m t a w → OpenFrom v p m t h a w

pub data GetPosition (v : Held) (h : Handle) (a : Answer) (w : Held) : Type 0 where
  of_file : (bs : List ℕ) → Holds v.nodes h.node (file bs) → a ≡ accepted h.position [] → w ≡ v → GetPosition v h a w
  no_file : Holds v.nodes h.node directory → Refused unsupported 0 v a w → GetPosition v h a w

-- a record goes into a buffer that has room for it; of any other the length needed is told
pub data Delivers (space : ℕ) (bytes : List ℕ) (a : Answer) : Type 0 where
  whole : length bytes ≤ space → a ≡ accepted (length bytes) bytes → Delivers space bytes a
  short : space < length bytes → a ≡ refused buffer_too_small (length bytes) → Delivers space bytes a

-- the record of the handle's node, with the due size for a file where one is due
pub record GetInfo (v : Held) (size : Option ℕ) (space : ℕ) (h : Handle) (a : Answer) (w : Held) : Type 0 where
  pub node : Node
  pub there : v.nodes h.node ≡ Some node
  pub bytes : List ℕ
  pub tells : RecordOf size (name_of h.node node) node.content bytes
  pub delivers : Delivers space bytes a
  pub held : w ≡ v

-- at most the cap
abbrev pub capped : Option ℕ → ℕ → ℕ
capped (Some c) n = min n c
capped None n = n

-- a directory's read: the record of the next that stands there, and one past its place, or 0 bytes at the end
pub data Lists (v : Held) (k space : ℕ) (h : Handle) (a : Answer) (w : Held) : Type 0 where
  gives : (place : ℕ) (name : Name) (c : Content) (bytes : List ℕ) → Next v.nodes h.node h.position place name c → RecordOf None name c bytes → length bytes ≤ space → a ≡ accepted (length bytes) bytes → w ≡ moved k h (place + 1) v → Lists v k space h a w
  short : (place : ℕ) (name : Name) (c : Content) (bytes : List ℕ) → Next v.nodes h.node h.position place name c → RecordOf None name c bytes → space < length bytes → Refused buffer_too_small (length bytes) v a w → Lists v k space h a w
  ends : AtEnd v.nodes h.node h.position → a ≡ accepted 0 [] → w ≡ v → Lists v k space h a w

-- a file's read: the least of the buffer's length, the bytes left and the cap
pub data ReadOf (v : Held) (cap : Option ℕ) (k space : ℕ) (h : Handle) (a : Answer) (w : Held) : Type 0 where
  of_file : (bs : List ℕ) (n : ℕ) → Holds v.nodes h.node (file bs) → n ≡ capped cap (min space (length bs - h.position)) → a ≡ accepted n (take n (drop h.position bs)) → w ≡ moved k h (h.position + n) v → ReadOf v cap k space h a w
  of_directory : Holds v.nodes h.node directory → Lists v k space h a w → ReadOf v cap k space h a w

-- a file's write: as many bytes as its capacity takes, from the position on
pub record Written (v : Held) (capacity : ℕ → ℕ) (k : ℕ) (bytes : List ℕ) (h : Handle) (a : Answer) (w : Held) : Type 0 where
  pub node : Node
  pub old : List ℕ
  pub there : v.nodes h.node ≡ Some node
  pub content : node.content ≡ file old
  pub count : ℕ
  pub counted : count ≡ min (length bytes) (capacity h.node - h.position)
  pub held : w ≡ moved k h (h.position + count) (changed h.node (record node { content = file (overwritten old h.position count bytes) }) v)
  pub answer : (count ≡ length bytes × a ≡ accepted 0 []) ⊎ (count < length bytes × a ≡ refused volume_full count)

pub data Write (v : Held) (capacity : ℕ → ℕ) (k : ℕ) (bytes : List ℕ) (h : Handle) (a : Answer) (w : Held) : Type 0 where
  denied : h.writable ≡ false → Refused access_denied 0 v a w → Write v capacity k bytes h a w
  no_file : h.writable ≡ true → Holds v.nodes h.node directory → Refused unsupported 0 v a w → Write v capacity k bytes h a w
  of_file : h.writable ≡ true → Written v capacity k bytes h a w → Write v capacity k bytes h a w

-- close obeys nothing that is due
pub data Close (v : Held) (k : ℕ) (a : Answer) (w : Held) : Type 0 where
  misused : v.handles k ≡ None → a ≡ refused device_error 0 → w ≡ misuse v → Close v k a w
  closes : (h : Handle) → v.handles k ≡ Some h → a ≡ accepted 0 [] → w ≡ closed k v → Close v k a w

-- a node that delete keeps
pub data Kept (v : Held) (k : ℕ) (h : Handle) : Type 0 where
  is_root : h.node ≡ root → Kept v k h
  has_entries : (n : ℕ) (c : Name) → Entry v.nodes h.node c n → Kept v k h
  open_elsewhere : (j : ℕ) (g : Handle) → (j ≢ k) → v.handles j ≡ Some g → g.node ≡ h.node → Kept v k h
  may_not_write : h.writable ≡ false → Kept v k h

-- delete ends its handle in every case
pub data Delete (v : Held) (k : ℕ) (h : Handle) (a : Answer) (w : Held) : Type 0 where
  keeps : Kept v k h → a ≡ refused warn_delete_failure 0 → w ≡ closed k v → Delete v k h a w
  removes : (Kept v k h → ⊥) → a ≡ accepted 0 [] → w ≡ removed h.node (closed k v) → Delete v k h a w

abbrev pub Flush : Held → Handle → Answer → Held → Type 0
Flush v h a w = (a ≡ accepted 0 []) × (w ≡ v)

-- what a call answers, and does to what only calls change
abbrev pub Does : Held → (ℕ → ℕ) → Due → Call → Answer → Held → Type 0
Does v capacity d open_volume a w = OpenVolume v d.status a w
Does v capacity d (open_from k p m t) a w = Through v d.status k itself v (OpenFrom v p m t) a w
Does v capacity d (close k) a w = Close v k a w
Does v capacity d (delete k) a w = Through v d.status k itself (closed k v) (Delete v k) a w
Does v capacity d (get_position k) a w = Through v d.status k not_unsupported v (GetPosition v) a w
Does v capacity d (get_info k n) a w = Through v d.status k itself v (GetInfo v d.size n) a w
Does v capacity d (read k n) a w = Through v d.status k itself v (ReadOf v d.cap k n) a w
Does v capacity d (write k bs) a w = Through v d.status k itself v (Write v capacity k bs) a w
Does v capacity d (flush k) a w = Through v d.status k itself v (Flush v) a w

-- what a delivered record of a handle's node reports
pub data Reports (v : Held) (size : Option ℕ) (k : ℕ) (old new : Option Reported) : Type 0 where
  of_file : (h : Handle) (bs : List ℕ) → v.handles k ≡ Some h → Holds v.nodes h.node (file bs) → new ≡ Some (record { file = h.node; size = size_of size (file bs) }) → Reports v size k old new
  of_directory : (h : Handle) → v.handles k ≡ Some h → Holds v.nodes h.node directory → new ≡ old → Reports v size k old new

abbrev pub ReportedAfter : Held → Due → Call → Answer → Option Reported → Option Reported → Type 0
ReportedAfter v d open_volume a old new = new ≡ old
ReportedAfter v d (open_from k p m t) a old new = new ≡ old
ReportedAfter v d (close k) a old new = new ≡ old
ReportedAfter v d (delete k) a old new = new ≡ old
ReportedAfter v d (get_position k) a old new = new ≡ old
ReportedAfter v d (get_info k n) (accepted m bs) old new = Reports v d.size k old new
ReportedAfter v d (get_info k n) (refused s l) old new = new ≡ old
ReportedAfter v d (read k n) a old new = new ≡ old
ReportedAfter v d (write k bs) a old new = new ≡ old
ReportedAfter v d (flush k) a old new = new ≡ old

-- one call: what it may answer, and what state may follow
pub record Step (v : State) (q : Call) (a : Answer) (w : State) : Type 0 where
  pub does : Does v.held v.capacity v.due q a w.held
  pub reported : ReportedAfter v.held v.due q a v.reported w.reported

-- what a number is: an open file, an open directory, or none, where it is not open
abbrev pub kind_of_content : Content → NodeKind
kind_of_content directory = kinds.Directory
kind_of_content (file bs) = kinds.File

abbrev pub kind_of_node : Option Node → NodeKind
kind_of_node None = kinds.Directory
kind_of_node (Some x) = kind_of_content x.content

abbrev pub kind_of_handle : Nodes → Option Handle → Option NodeKind
kind_of_handle t None = None
kind_of_handle t (Some h) = Some (kind_of_node (t h.node))

abbrev pub kind_of : Held → ℕ → Option NodeKind
kind_of v k = kind_of_handle v.nodes (v.handles k)
