-- What a write to a table does to the state.
use Rattle.std.proofs.Common.{◌≡◌, ℕ, ◌+◌, ◌<◌, Bool, false, cond, List, [], length, set, Some, None, Option, refl, ap, ◌∙◌}
use Rattle.volume.specs.Tree.{Nodes, directory, file, put}
use Rattle.volume.specs.State.{Held, Limits, opened, changed, created, removed}
use Rattle.volume.specs.declared.handle.Handle.{Handle}
use Rattle.block_store.specs.Files.{Files, replaced}
use Rattle.block_store.specs.Slots.{replaced_here, replaced_other}
use Rattle.ram_tables.specs.Tables.{row, name_of_row, node_of, tree_of}
use Rattle.ram_tables.specs.declared.rows.Row.{Row}
use Rattle.ram_tables.proofs.Grids.{row_in, row_same, row_other, table_set, count_less, count_more}
use Rattle.ram_tables.proofs.Known.{tree_changed}
use Rattle.ram_volume.specs.Meaning.{held_of}

abbrev parts : Nodes → ℕ → (ℕ → Option Handle) → ℕ → Limits → Bool → Held
parts t n hs k l b = record { nodes = t; node_count = n; handles = hs; handle_count = k; limits = l; misused = b }

same_parts : (t t' : Nodes) (n n' : ℕ) (hs hs' : ℕ → Option Handle) (k k' : ℕ) (l : Limits) (b : Bool)
    → t ≡ t' → n ≡ n' → hs ≡ hs' → k ≡ k' → parts t n hs k l b ≡ parts t' n' hs' k' l b
same_parts t t' n n' hs hs' k k' l b p q r s = cc

pub opened_held : (rows : List (Option Row)) (files : Files) (handles : List (Option Handle)) (b : Bool) (k : ℕ) (h : Handle) → k < length handles → row handles k ≡ None
    → held_of rows files (set handles k (Some h)) b ≡ opened k h (held_of rows files handles b)
opened_held rows files handles b k h l e = same_parts _ _ _ _ _ _ _ _ _ _ refl refl (table_set handles k (Some h) l) (count_more handles k h e l)

module _ (rows : List (Option Row)) (files : Files) (handles : List (Option Handle)) (b : Bool) (n : ℕ) where
  -- the files but at one number
  others : (bytes : List ℕ) (m : ℕ) → (m ≡ n → ⊥) → replaced files n bytes m ≡ files m
  others bytes m ne = replaced_other files n bytes m ne

  pub created_held : (r : Row) → n < length rows → row rows n ≡ None → held_of (set rows n (Some r)) (replaced files n []) handles b ≡ created n (node_of n r []) (held_of rows files handles b)
  created_held r l e = same_parts _ _ _ _ _ _ _ _ _ _
      (tree_changed rows (set rows n (Some r)) files (replaced files n []) n (Some r) (row_same rows n (Some r) l) (λ m ne. row_other rows n (Some r) m ne) (others [])
      ∙ ap (λ (bs : List ℕ). put (tree_of rows files) n (Some (node_of n r bs))) (replaced_here files n []))
      (count_more rows n r e l) refl refl

  pub removed_held : (r : Row) → row rows n ≡ Some r → held_of (set rows n None) (replaced files n []) handles b ≡ removed n (held_of rows files handles b)
  removed_held r e = same_parts _ _ _ _ _ _ _ _ _ _
      (tree_changed rows (set rows n None) files (replaced files n []) n None (row_same rows n None (row_in rows n r e)) (λ m ne. row_other rows n None m ne) (others []))
      (count_less rows n r e) refl refl

  pub changed_held : (r : Row) (new : List ℕ) → row rows n ≡ Some r → r.directory ≡ false
      → held_of rows (replaced files n new) handles b ≡ changed n (record { parent = r.parent; name = name_of_row r; place = n + 2; content = file new }) (held_of rows files handles b)
  changed_held r new e d = same_parts _ _ _ _ _ _ _ _ _ _
      (tree_changed rows rows files (replaced files n new) n (Some r) e (λ m ne. refl) (others new)
      ∙ (ap (λ (bs : List ℕ). put (tree_of rows files) n (Some (node_of n r bs))) (replaced_here files n new)
      ∙ ap (λ (t : Bool). put (tree_of rows files) n (Some (record { parent = r.parent; name = name_of_row r; place = n + 2; content = cond t directory (file new) }))) d))
      refl refl refl
