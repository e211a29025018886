use Rattle.std.proofs.Common.{List, Option, sym, subst, refl, arith}
use mathlib.Core.Logic.{∥∥₁_map}
use Rattle.ram_tables.specs.Tables.{Whole}
use Rattle.ram_tables.specs.declared.rows.Row.{Row}
use Rattle.ram_tables.proofs.Making.{whole_made}
use Rattle.ram_tables.proofs.Naming.{nameable_short}
use Rattle.ram_tables.proofs.tables.NodeTable.make.Goals as goal

pub invariant_of-self-clause-whole : goal.invariant_of-self-clause-whole
invariant_of-self-clause-whole c =
    let t = c.args.self.now in
    let p = c.requires in
    subst (λ (rows : List (Option Row)). ∥ Whole rows ∥₁) (sym c.put.ensures)
    (∥∥₁_map t.whole (λ w. whole_made t.rows w c.args.n c.args.d c.args.name.now _ (omega (arith, t.long, p.within)) p.free p.dir p.absent p.proper refl c.padded.ensures (nameable_short c.args.name.now p.proper)))

pub padded-requires : goal.padded-requires
padded-requires c = nameable_short c.args.name.now c.requires.proper
