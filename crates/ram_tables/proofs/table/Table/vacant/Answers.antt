use Rattle.std.proofs.Common.{true, false, ◌≡◌, rules}
use Rattle.std.proofs.lemmas.Iterator.{IsFirst-from_position, YieldsList-from_slice}
use Rattle.ram_tables.specs.Tables.{taken}
use Rattle.ram_tables.proofs.Grids.{first_vacant}
use Rattle.ram_tables.proofs.table.Table.vacant.Goals as goal

pub returns : goal.returns
returns g c =
    rw (← c.self.view_is)
    (first_vacant c.self.inside.rows c.position.result c.self.invariant
    (IsFirst-from_position _ _ c.position.result (λ o. taken o ≡ false) (λ o. taken o ≡ true) c.position.ensures.ran (YieldsList-from_slice c.self.inside.rows (search rules)) (λ x q k. search rules) (λ x q k. search rules)))
