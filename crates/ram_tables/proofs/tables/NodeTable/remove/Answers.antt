use Rattle.std.proofs.Common.{List, Option, not, sym, subst, ap, ◌∙◌}
use mathlib.Core.Logic.{∥∥₁_map}
use Rattle.std.proofs.lemmas.Bool.Decides.{not_from_Decides}
use Rattle.ram_tables.specs.Tables.{row, Whole}
use Rattle.ram_tables.specs.declared.rows.Row.{Row}
use Rattle.ram_tables.proofs.Grids.{row_in, copied_some}
use Rattle.ram_tables.proofs.Removing.{whole_removed}
use Rattle.ram_tables.proofs.tables.NodeTable.remove.Goals as goal

pub invariant_of-self-clause-whole : goal.invariant_of-self-clause-whole
invariant_of-self-clause-whole c =
    let t = c.args.self.now in
    let n = c.args.n in
    let (x, e) = copied_some c.row.result (row t.rows n) c.row.ensures.is (c.is_none.ensures ∙ ap not c.if-is_none.false) in
    let leaf = not_from_Decides _ c.has_entries.ensures c.if-has_entries.false in
    subst (λ (rows : List (Option Row)). ∥ Whole rows ∥₁) (sym c.put.ensures) (∥∥₁_map t.whole (λ w. whole_removed t.rows n w (row_in t.rows n x e) c.if-n-eq-ROOT.false leaf))
