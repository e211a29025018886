-- A RAM volume is sound.
use Rattle.std.specs.Prelude.{◌≡◌, ℕ, Bool, List, Some, None, Option, ◌≢◌, refl}
use Rattle.volume.specs.Soundness.{Sound}
use Rattle.volume.specs.Tree.{Node}
use Rattle.volume.specs.declared.handle.Handle.{Handle}
use Rattle.block_store.specs.Files.{Files}
use Rattle.ram_tables.specs.Tables.{row, node_of, tree_of, Whole}
use Rattle.ram_tables.specs.declared.rows.Row.{Row}
use Rattle.ram_tables.proofs.Counted.{counted_rows}
use Rattle.ram_tables.proofs.Known.{there_node, counted_nodes}
use Rattle.ram_volume.specs.Standing.{Standing}
use Rattle.ram_volume.specs.Meaning.{held_of}

pub sound_tables : (rows : List (Option Row)) (files : Files) (handles : List (Option Handle)) (b : Bool) → Whole rows → Standing rows handles → Sound (held_of rows files handles b)
sound_tables rows files handles b w s = record {
  tree = w.tree files;
  on_nodes = λ k h e. there h.node (row rows h.node) refl (s k h e);
  nodes_counted = counted_nodes rows files;
  handles_counted = counted_rows handles;
}
  where
    there : (n : ℕ) (o : Option Row) → row rows n ≡ o → (row rows n ≢ None) → (x : Node) × (tree_of rows files n ≡ Some x)
    there n (Some r) e t = (node_of n r (files n), there_node rows files n r e)
    there n None e t = absurd (t e)
