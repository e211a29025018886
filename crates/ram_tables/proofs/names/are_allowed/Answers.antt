use Rattle.std.proofs.Common.{◌≡◌, true, false, rules}
use Rattle.std.proofs.lemmas.Iterator.{cases_from_all, YieldsList-from_slice}
use Rattle.ram_tables.proofs.Naming.{allowed, all_from_all}
use Rattle.ram_tables.proofs.names.are_allowed.Goals as goal

pub returns : goal.returns
returns c =
    all_from_all allowed c.args.units.now c.all.result
    (cases_from_all _ _ c.all.result (λ u. allowed u ≡ true) (λ u. allowed u ≡ false) c.all.ensures.ran (YieldsList-from_slice c.args.units.now (search rules)) (λ x q k. search rules) (λ x q k. search rules))
