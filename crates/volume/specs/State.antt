-- The state of a volume.
use Rattle.std.specs.Prelude.{◌≡◌, ℕ, ◌+◌, ◌-◌, Bool, true, List, ◌++◌, take, drop, Some, None, Option}
use Rattle.volume.specs.Tree.{Node, Nodes, put}
use Rattle.volume.specs.declared.handle.Handle.{Handle}
use Rattle.volume.specs.declared.handle.Reported.{Reported}

-- what is due at the next call: a status to refuse with, which is never 0, a cap on reading, a file size to report
pub record Due : Type 0 where
  pub status : Option ℕ
  pub cap : Option ℕ
  pub size : Option ℕ
  pub failing : status ≡ Some 0 → ⊥

-- the most handles and nodes of a volume, and the most units of a name
pub record Limits : Type 0 where
  pub handles : ℕ
  pub nodes : ℕ
  pub name : ℕ

-- what only calls change: the nodes and how many there are, the open handles and how many, the limits,
-- and whether a call ever named a handle that was not open
pub record Held : Type 0 where
  pub nodes : Nodes
  pub node_count : ℕ
  pub handles : ℕ → Option Handle
  pub handle_count : ℕ
  pub limits : Limits
  pub misused : Bool

-- beside it the file that get_info last reported, if any, with the size it reported;
-- and what each call may leave as it likes: the capacity of each file, and what is due next
pub record State : Type 0 where
  pub held : Held
  pub reported : Option Reported
  pub capacity : ℕ → ℕ
  pub due : Due

abbrev pub misuse : Held → Held
misuse s = record s { misused = true }

abbrev pub opened : ℕ → Handle → Held → Held
opened k h s = record s { handles = put s.handles k (Some h); handle_count = s.handle_count + 1 }

abbrev pub closed : ℕ → Held → Held
closed k s = record s { handles = put s.handles k None; handle_count = s.handle_count - 1 }

-- the handle k, moved to a position
abbrev pub moved : ℕ → Handle → ℕ → Held → Held
moved k h p s = record s { handles = put s.handles k (Some (record h { position = p })) }

abbrev pub changed : ℕ → Node → Held → Held
changed n x s = record s { nodes = put s.nodes n (Some x) }

abbrev pub created : ℕ → Node → Held → Held
created n x s = record s { nodes = put s.nodes n (Some x); node_count = s.node_count + 1 }

abbrev pub removed : ℕ → Held → Held
removed n s = record s { nodes = put s.nodes n None; node_count = s.node_count - 1 }

-- the first n of some bytes, written over and past others from a position on
abbrev pub overwritten : List ℕ → ℕ → ℕ → List ℕ → List ℕ
overwritten old p n bytes = take p old ++ (take n bytes ++ drop (p + n) old)
