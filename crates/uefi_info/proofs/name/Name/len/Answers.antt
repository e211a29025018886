use Rattle.std.proofs.Common.{sym}
use Rattle.uefi_info.proofs.UnitLists.{units_length}
use Rattle.uefi_info.proofs.name.Name.len.Goals as goal

pub returns : goal.returns
returns c = sym (units_length c.args.self.now.bytes.now)
