-- Nodes that come and go, in the words of the meaning.
use Rattle.std.proofs.Common.{◌≡◌, ℕ, Bool, true, false, cond, List, [], length, set, Some, None, Ok, Err, Option, ap, ◌∙◌, subst, inl, inr, arith}
use Rattle.uefi_types.specs.Modes.{has_bit, directory_bit}
use Rattle.volume.specs.Tree.{Name, directory, file}
use Rattle.volume.specs.declared.handle.Handle.{Handle}
use Rattle.volume.proofs.Puts.{none_some}
use Rattle.block_store.specs.Files.{Files, replaced}
use Rattle.ram_tables.specs.Tables.{row, node_of, tree_of}
use Rattle.ram_tables.specs.Moves.{Enlarged, Enters, Pruned, Removes}
use Rattle.ram_tables.specs.declared.rows.Row.{Row}
use Rattle.ram_tables.specs.declared.rows.Entered.TheVariants.{Found}
use Rattle.ram_tables.specs.declared.rows.EnterError.{EnterError}
use Rattle.ram_tables.specs.declared.rows.EnterError.TheVariants.{NotADirectory, BadName, Full}
use Rattle.ram_tables.proofs.Known.{there_none}
use Rattle.ram_tables.proofs.Making.{place_of}
use Rattle.ram_tables.proofs.Removing.{childless}
use Rattle.ram_volume.specs.Meaning.{held_of}
use Rattle.ram_volume.specs.Moves.{Came, Creates, Deletes}
use Rattle.ram_volume.proofs.Helds.{created_held, removed_held}

module _ (rows rows' : List (Option Row)) (files files' : Files) (handles : List (Option Handle)) (b : Bool) where
  both_changed : (rs : List (Option Row)) (fs : Files) → rows' ≡ rs → files' ≡ fs → held_of rows' files' handles b ≡ held_of rs fs handles b
  both_changed rs fs p q = ap (λ (x : List (Option Row)). held_of x files' handles b) p ∙ ap (λ (x : Files). held_of rs x handles b) q

  pub came : (d : ℕ) (c : Name) (attribute : ℕ) (kind : Bool) (n : ℕ) → kind ≡ has_bit directory_bit attribute → length rows ≡ 64
      → Enlarged rows d c kind n rows' → files' ≡ replaced files n [] → Came (held_of rows files handles b) d c attribute n (held_of rows' files' handles b)
  came d c attribute kind n k long x cleared = record {
    absent = x.absent files;
    proper = x.proper;
    space = x.space;
    node = node_of n x.new [];
    made = record {
      free = there_none rows files n x.free;
      parent = x.parent;
      name = x.called;
      above = omega arith;
      apart = λ m y e i p q. (let z : m ≡ n = omega (arith, place_of rows files m y e, q) in
          none_some (there_none rows files n x.free) (subst (λ (j : ℕ). tree_of rows files j ≡ Some y) z e));
      content = ap (λ (t : Bool). cond t directory (file [])) (x.kinded ∙ k);
    };
    held = both_changed (set rows n (Some x.new)) (replaced files n []) x.put cleared ∙ created_held rows files handles b n x.new (omega (arith, long, x.within)) x.free;
  }

  pub went : (n : ℕ) → Pruned rows n rows' → files' ≡ replaced files n [] → Deletes (held_of rows files handles b) n true (held_of rows' files' handles b)
  went n x cleared = (
    x.inner,
    λ m c e. childless rows n x.leaf files c m e,
    both_changed (set rows n None) (replaced files n []) x.put cleared ∙ removed_held rows files handles b n x.old x.there,
  )

  pub stayed : (n : ℕ) → (row rows n ≡ None → ⊥) → Removes rows n false rows' → files' ≡ files → Deletes (held_of rows files handles b) n false (held_of rows' files' handles b)
  stayed n there (inl z, e) q = (inl z, both_changed rows files e q)
  stayed n there (inr (inl z), e) q = absurd (there z)
  stayed n there (inr (inr (m, c, f)), e) q = (inr (m, c, f files), both_changed rows files e q)

  -- where no node was made
  pub found : (d : ℕ) (c : Name) (attribute n : ℕ) (kind : Bool) → Enters rows d c kind (Ok (Found n)) rows' → files' ≡ files
      → Creates (held_of rows files handles b) d c attribute (Ok n) (held_of rows' files' handles b)
  found d c attribute n kind (x, e) q = inl (x files, both_changed rows files e q)

  pub unmade : (d : ℕ) (c : Name) (attribute : ℕ) (kind : Bool) (e : EnterError) → Enters rows d c kind (Err e) rows' → files' ≡ files
      → Creates (held_of rows files handles b) d c attribute (Err e) (held_of rows' files' handles b)
  unmade d c attribute kind NotADirectory (x, e) q = (x files, both_changed rows files e q)
  unmade d c attribute kind BadName (x, z, e) q = (x files, z, both_changed rows files e q)
  unmade d c attribute kind Full (x, z, l, e) q = (x files, z, l, both_changed rows files e q)
