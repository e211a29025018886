-- The root alone.
use Rattle.std.proofs.Common.{◌≡◌, ℕ, ◌<◌, ◌≤◌, true, List, [], length, set, Some, None, Option, refl, ◌∙◌, subst, inl, inr}
use Rattle.std.proofs.lemmas.Bool.{cases_eq}
use Rattle.volume.specs.Tree.{Nodes, root, directory, Holds, Tree}
use Rattle.volume.proofs.Puts.{none_some, some_same}
use Rattle.ram_tables.specs.Tables.{row, tree_of, IsDirectory, Whole}
use Rattle.ram_tables.specs.declared.rows.Row.{Row}
use Rattle.ram_tables.proofs.Grids.{row_same, row_other, row_cases}
use Rattle.ram_tables.proofs.Known.{holds_directory, there_none}

-- a tree with its root alone
pub lone_tree : (t : Nodes) → Holds t root directory → ((n : ℕ) → (n ≡ root → ⊥) → t n ≡ None) → Tree t
lone_tree t r h = record {
  rooted = r;
  parents = λ n x e i. absurd (none_some (h n i) e);
  names_apart = λ d m n c e f. absurd (none_some (h m e.inner) e.there);
  places_apart = λ m n x y e f i j p q. absurd (none_some (h m i) e);
  places_above = λ n x e i. absurd (none_some (h n i) e);
  named = λ n x e i. absurd (none_some (h n i) e);
  reached = λ n x e. elim (cases_eq n root) [ inl z ↦ ([], z) | inr z ↦ absurd (none_some (h n z) e) ];
}

-- the root's row alone, in a table that had none
module _ (rows : List (Option Row)) (r : Row) (dir : r.directory ≡ true) (none : (n : ℕ) → row rows n ≡ None) (within : 0 < length rows) where
  pub root_holds : IsDirectory (set rows root (Some r)) root
  root_holds bytes = holds_directory (set rows root (Some r)) bytes root r (row_same rows root (Some r) within) dir

  pub other_none : (n : ℕ) → (n ≡ root → ⊥) → row (set rows root (Some r)) n ≡ None
  other_none n h = row_other rows root (Some r) n h ∙ none n

  pub whole_new : r.len ≤ 64 → Whole (set rows root (Some r))
  whole_new short = record {
    tree = λ bytes. lone_tree (tree_of (set rows root (Some r)) bytes) (root_holds bytes) (λ n h. there_none (set rows root (Some r)) bytes n (other_none n h));
    short = λ i q e. elim (row_cases rows root (Some r) i q e) [
      | inl h ↦ subst (λ (y : Row). y.len ≤ 64) (some_same refl h.1) short
      | inr h ↦ absurd (none_some (none i) h.1)
    ];
  }
