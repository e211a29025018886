use Rattle.std.proofs.Common.{Bool, Decides, sym, subst}
use Rattle.ram_tables.specs.Moves.{HasEntries}
use Rattle.ram_tables.proofs.Known.{found_child}
use Rattle.ram_tables.proofs.tables.NodeTable.has_entries.Goals as goal

pub returns : goal.returns
returns c =
    let rows = c.args.self.now.rows in
    subst (λ (b : Bool). Decides b (HasEntries rows c.args.d)) (sym c.is_some.ensures) (found_child rows c.args.d c.child_from.result c.child_from.ensures)
