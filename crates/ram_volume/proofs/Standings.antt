-- Open handles by their numbers.
use Rattle.std.proofs.Common.{◌≡◌, ℕ, List, Some, Option, sym, ap, ◌∙◌, subst}
use Rattle.volume.specs.Calls.{Call, Answer, Step}
use Rattle.volume.specs.State.{State}
use Rattle.volume.specs.Tree.{directory, file, Holds}
use Rattle.volume.specs.declared.handle.Handle.{Handle}
use Rattle.volume.specs.declared.handle.NodeKind.TheVariants.{File, Directory}
use Rattle.block_store.specs.Files.{Files}
use Rattle.ram_tables.specs.Tables.{row, tree_of}
use Rattle.ram_tables.specs.declared.rows.Row.{Row}
use Rattle.ram_tables.proofs.Known.{holds_directory, holds_file}
use Rattle.ram_volume.specs.Standing.{is_directory, On}
use Rattle.ram_volume.specs.declared.at.At.{At}

-- what an open handle is on
module _ {rows : List (Option Row)} {handles : List (Option Handle)} {at : At} (o : On rows handles at) where
  pub on_directory : (files : Files) → at.kind ≡ Directory → Holds (tree_of rows files) at.handle.node directory
  on_directory files e = holds_directory rows files at.handle.node o.node o.there (o.kinded ∙ ap is_directory e)

  pub on_file : (files : Files) → at.kind ≡ File → Holds (tree_of rows files) at.handle.node (file (files at.handle.node))
  on_file files e = holds_file rows files at.handle.node o.node o.there (o.kinded ∙ ap is_directory e)

  pub stands : {k : ℕ} → at.number ≡ k → row handles k ≡ Some at.handle
  stands {k} e = ap (row handles) (sym e) ∙ o.opened

-- a call by the number of an open handle is a call by that number
pub renumbered : (call : ℕ → Call) {k j : ℕ} {v w : State} {a : Answer} → k ≡ j → Step v (call k) a w → Step v (call j) a w
renumbered call {k} {j} {v} {w} {a} e s = subst (λ (n : ℕ). Step v (call n) a w) e s
