use Rattle.std.proofs.Common.{◌≡◌, ◌≤◌, IfSome, Some, None, Option, sym}
use mathlib.Core.Logic.{∥∥₁_elim}
use native.Mathlib.Bridge.{le_prop}
use Rattle.std.specs.Borrow.{Bor}
use Rattle.std.specs.Option.{option_copied}
use Rattle.ram_tables.specs.Tables.{row}
use Rattle.ram_tables.specs.declared.rows.Row.{Row}
use Rattle.ram_tables.proofs.tables.NodeTable.row.Goals as goal

each : (o : Option (Bor Row)) (r : Option Row) → option_copied o ≡ r → ((x : Row) → r ≡ Some x → x.len ≤ 64) → IfSome o (λ x. x.now.len ≤ 64)
each (Some p) r e h = h p.now (sym e)
each None r e h = tt

pub returns : goal.returns
returns c =
    let t = c.args.self.now in
    record { is = c.row.ensures; short = each c.row.result (row t.rows c.args.n) c.row.ensures (λ r e. ∥∥₁_elim t.whole le_prop (λ w. w.short c.args.n r e)) }
