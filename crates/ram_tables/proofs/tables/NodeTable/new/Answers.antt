use Rattle.std.proofs.Common.{List, Option, sym, subst, refl, arith}
use Rattle.ram_tables.specs.Tables.{Whole}
use Rattle.ram_tables.specs.declared.rows.Row.{Row}
use Rattle.ram_tables.proofs.Starting.{root_holds, other_none, whole_new}
use Rattle.ram_tables.proofs.tables.NodeTable.new.Goals as goal

pub invariant_of-result-clause-whole : goal.invariant_of-result-clause-whole
invariant_of-result-clause-whole c = subst (λ (rows : List (Option Row)). ∥ Whole rows ∥₁) (sym c.put.ensures) ∣ whole_new c.new-rows.result _ refl c.new-rows.ensures.free (omega arith) (omega arith) ∣₁

pub returns : goal.returns
returns c =
    rw c.put.ensures
    (record { rooted = root_holds c.new-rows.result _ refl c.new-rows.ensures.free (omega arith); alone = other_none c.new-rows.result _ refl c.new-rows.ensures.free (omega arith) })
