use Rattle.std.proofs.Common.{◌<◌, length, rules}
use Rattle.uefi_info.specs.Records.{units_of}
use Rattle.uefi_info.proofs.UnitLists.{fewer_units}
use Rattle.uefi_info.proofs.name.UnitsIterator.next.Goals as goal

pub returns-clause-goes : goal.returns-clause-goes
returns-clause-goes c =
    let bs = c.args.self.now.bytes.now in
    let cut = c.in_ok-pair.ensures.cases.1 in
    let fewer : length (units_of c.in_ok-pair.rest.now) < length (units_of bs) = rw cut (fewer_units bs (c.in_ok-pair.ensures.variant.0 (search rules))) in
    record { on = λ _. (search rules, search rules, fewer); keeps = search rules; rests = λ _. search rules }
