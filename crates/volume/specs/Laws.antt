-- What the meaning of a volume comes to, in the words of someone who uses one.
use Rattle.std.specs.Prelude.{◌≡◌, ℕ, ◌⊎◌, List, Some, None, Option, ◌≢◌}
use Rattle.uefi_result.specs.StatusCodes.{volume_full}
use Rattle.uefi_types.specs.declared.modes.FileMode.TheVariants.{CreateReadWrite}
use Rattle.volume.specs.Tree.{Route, File, put}
use Rattle.volume.specs.State.{Held, State, misuse, closed}
use Rattle.volume.specs.Calls.{Call, open_volume, open_from, close, delete, get_position, get_info, read, write, flush, Answer, refused, Step}
use Rattle.volume.specs.Soundness.{Sound}
use Rattle.volume.specs.declared.handle.Handle.{Handle}

-- the handle that a call names
abbrev pub handle_of : Call → Option ℕ
handle_of open_volume = None
handle_of (open_from k p m t) = Some k
handle_of (close k) = Some k
handle_of (delete k) = Some k
handle_of (get_position k) = Some k
handle_of (get_info k n) = Some k
handle_of (read k n) = Some k
handle_of (write k bs) = Some k
handle_of (flush k) = Some k

-- what a refused call leaves: everything, but for a handle that was not open the flag of misuse, for a delete
-- its handle, and for a write of which not all bytes fitted those that did
pub data Leaves (v : Held) (q : Call) (status : ℕ) (w : Held) : Type 0 where
  all : w ≡ v → Leaves v q status w
  but_flag : (k : ℕ) → handle_of q ≡ Some k → v.handles k ≡ None → w ≡ misuse v → Leaves v q status w
  but_handle : (k : ℕ) → q ≡ delete k → w ≡ closed k v → Leaves v q status w
  but_bytes : (k : ℕ) (bs : List ℕ) → q ≡ write k bs → status ≡ volume_full → Leaves v q status w

-- which calls change the node x: an open that makes it, a write or a delete through a handle on it
pub data Changes (v : Held) (q : Call) (x : ℕ) : Type 0 where
  makes : (k : ℕ) (p : Route) (t : ℕ) → q ≡ open_from k p CreateReadWrite t → v.nodes x ≡ None → Changes v q x
  writes : (k : ℕ) (bs : List ℕ) (h : Handle) → q ≡ write k bs → v.handles k ≡ Some h → h.node ≡ x → Changes v q x
  deletes : (k : ℕ) (h : Handle) → q ≡ delete k → v.handles k ≡ Some h → h.node ≡ x → Changes v q x

-- the tree changed at one node, and every other file kept its path and its bytes; none came and none went
pub record OneNode (v : Held) (q : Call) (w : Held) : Type 0 where
  pub at : ℕ
  pub by : Changes v q at
  pub others : (n : ℕ) → (n ≢ at) → w.nodes n ≡ v.nodes n
  pub kept : (n : ℕ) (p : Route) (b : List ℕ) → (n ≢ at) → File v.nodes n p b → File w.nodes n p b
  pub was : (n : ℕ) (p : Route) (b : List ℕ) → (n ≢ at) → File w.nodes n p b → File v.nodes n p b

pub record VolumeLaws : Type 0 where
  -- every call keeps a volume sound
  pub keeps : (v w : State) (q : Call) (a : Answer) → Sound v.held → Step v q a w → Sound w.held
  -- a refusal leaves everything, but what it says
  pub refusals : (v w : State) (q : Call) (s l : ℕ) → Step v q (refused s l) w → Leaves v.held q s w.held
  -- only create, write and delete change the tree, each at one node
  pub changes : (v w : State) (q : Call) (a : Answer) → Sound v.held → Step v q a w → (w.held.nodes ≡ v.held.nodes) ⊎ (OneNode v.held q w.held)
  -- close and delete end exactly their handle
  pub closes : (v w : State) (k : ℕ) (h : Handle) (a : Answer) → v.held.handles k ≡ Some h → Step v (close k) a w → w.held.handles ≡ put v.held.handles k None
  pub deletes : (v w : State) (k : ℕ) (h : Handle) (a : Answer) → v.held.handles k ≡ Some h → Step v (delete k) a w → w.held.handles ≡ put v.held.handles k None
  -- a call on an open handle never sets the flag
  pub unmisused : (v w : State) (q : Call) (a : Answer) → ((k : ℕ) → handle_of q ≡ Some k → v.held.handles k ≢ None) → Step v q a w → w.held.misused ≡ v.held.misused
