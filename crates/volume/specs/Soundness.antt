-- What is always so of a volume.
use Rattle.std.specs.Prelude.{◌≡◌, ℕ, Some}
use Rattle.volume.specs.Tree.{Node, Tree, Counts}
use Rattle.volume.specs.State.{Held}
use Rattle.volume.specs.declared.handle.Handle.{Handle}

-- its nodes are a tree, each handle's node is there, and the counts count
pub record Sound (v : Held) : Type 0 where
  pub tree : Tree v.nodes
  pub on_nodes : (k : ℕ) (h : Handle) → v.handles k ≡ Some h → (x : Node) × (v.nodes h.node ≡ Some x)
  pub nodes_counted : Counts v.nodes v.node_count
  pub handles_counted : Counts v.handles v.handle_count
