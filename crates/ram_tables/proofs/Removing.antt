-- A node that goes.
use Rattle.std.proofs.Common.{◌≡◌, ℕ, ◌<◌, List, length, set, None, Option, sym, refl, subst, inl, inr}
use Rattle.volume.specs.Tree.{Name, root, Entry, Tree}
use Rattle.volume.proofs.Puts.{none_some}
use Rattle.volume.proofs.Changes.{pruned_tree}
use Rattle.ram_tables.specs.Tables.{tree_of, Whole}
use Rattle.ram_tables.specs.Moves.{HasEntries}
use Rattle.ram_tables.specs.declared.rows.Row.{Row}
use Rattle.ram_tables.proofs.Grids.{row_cases}
use Rattle.ram_tables.proofs.Known.{tree_set, entry_any}

-- a node without entries has none, whatever bytes the files have
pub childless : (rows : List (Option Row)) (n : ℕ) → (HasEntries rows n → ⊥) → (bytes : ℕ → List ℕ) (c : Name) (m : ℕ) → Entry (tree_of rows bytes) n c m → ⊥
childless rows n h bytes c m e = h (m, c, λ other. entry_any rows bytes other n c m e)

pub whole_removed : (rows : List (Option Row)) (n : ℕ) → Whole rows → n < length rows → (n ≡ root → ⊥) → (HasEntries rows n → ⊥) → Whole (set rows n None)
whole_removed rows n w within inner leaf = record {
  tree = λ bytes. subst Tree (sym (tree_set rows bytes n None within))
      (pruned_tree (tree_of rows bytes) (w.tree bytes) n inner
      (λ m y e i p. childless rows n leaf bytes y.name m (record { node = y; there = e; inner = i; parent = p; called = refl })));
  short = λ i r e. elim (row_cases rows n None i r e) [
    | inl h ↦ absurd (none_some refl h.1)
    | inr h ↦ w.short i r h.1
  ];
}
