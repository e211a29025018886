use Rattle.uefi_info.proofs.UnitLists.{unit_found}
use Rattle.uefi_info.proofs.name.Name.unit.Goals as goal

pub returns : goal.returns
returns c = unit_found c.args.self.now.bytes.now c.args.place c.as_chunks.result.0.now c.get.result c.map.result c.as_chunks.ensures.front c.get.ensures.lookup.3 c.map.ensures.cases
