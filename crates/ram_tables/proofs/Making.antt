-- A node that comes.
use Rattle.std.proofs.Common.{◌≡◌, ℕ, ◌+◌, ◌<◌, ◌≤◌, true, List, length, set, Some, None, Option, sym, refl, ap, ◌∙◌, subst, inl, inr, arith}
use Rattle.volume.specs.Calls.{nameable}
use Rattle.volume.specs.Tree.{Name, Node, is_name, directory, root, Holds, Tree}
use Rattle.volume.proofs.Puts.{none_some, some_same}
use Rattle.volume.proofs.Trees.{Fits, free_leaf, put_tree}
use Rattle.ram_tables.specs.Tables.{row, name_of_row, node_of, tree_of, IsDirectory, Whole}
use Rattle.ram_tables.specs.Lookups.{Finds}
use Rattle.ram_tables.specs.declared.rows.Row.{Row}
use Rattle.ram_tables.proofs.Grids.{row_cases}
use Rattle.ram_tables.proofs.Known.{there_none, tree_set, row_of}
use Rattle.ram_tables.proofs.Naming.{nameable_name}

-- the place of a node's entry is its number and two
pub place_of : (rows : List (Option Row)) (bytes : ℕ → List ℕ) (m : ℕ) (y : Node) → tree_of rows bytes m ≡ Some y → y.place ≡ m + 2
place_of rows bytes m y e = sym (ap (λ (x : Node). x.place) (row_of m (row rows m) (bytes m) y e).2)

module _ (rows : List (Option Row)) (w : Whole rows) (n d : ℕ) (c : Name) (r : Row) (within : n < length rows) (free : row rows n ≡ None)
    (dir : IsDirectory rows d) (absent : Finds rows d c None) (proper : nameable 64 c ≡ true)
    (parent : r.parent ≡ d) (called : name_of_row r ≡ c) (short : r.len ≤ 64) where
  module _ (bytes : ℕ → List ℕ) where
    no_node : tree_of rows bytes n ≡ None
    no_node = there_none rows bytes n free

    not_n : (k : ℕ) (h : Holds (tree_of rows bytes) k directory) → k ≡ n → ⊥
    not_n k h e = none_some no_node (subst (λ (i : ℕ). tree_of rows bytes i ≡ Some h.node) e h.there)

    fits : (z : Node) → Some (node_of n r (bytes n)) ≡ Some z → Fits (tree_of rows bytes) n z
    fits z e = subst (λ (z : Node). Fits (tree_of rows bytes) n z) (some_same refl e) record {
      dir = subst (λ (k : ℕ). Holds (tree_of rows bytes) k directory) (sym parent) (dir bytes);
      elsewhere = λ q. not_n d (dir bytes) (sym parent ∙ q);
      above = omega arith;
      proper = ap is_name called ∙ nameable_name c proper;
      name_apart = λ m y q h i pe ne. absent bytes m (record { node = y; there = q; inner = i; parent = sym pe ∙ parent; called = sym ne ∙ called });
      place_apart = λ m y q h i pe le. h (omega (arith, place_of rows bytes m y q, le));
    }

    new_tree : Tree (tree_of (set rows n (Some r)) bytes)
    new_tree = subst Tree (sym (tree_set rows bytes n (Some r) within))
        (put_tree (tree_of rows bytes) (w.tree bytes) n (Some (node_of n r (bytes n))) (free_leaf (tree_of rows bytes) (w.tree bytes) n no_node)
        (λ e. not_n root (w.tree bytes).rooted (sym e)) fits)

  pub whole_made : Whole (set rows n (Some r))
  whole_made = record {
    tree = new_tree;
    short = λ i q e. elim (row_cases rows n (Some r) i q e) [
      | inl h ↦ subst (λ (y : Row). y.len ≤ 64) (some_same refl h.1) short
      | inr h ↦ w.short i q h.1
    ];
  }
