use Rattle.std.proofs.Common.{rules}
use Rattle.uefi_file.proofs.Telling.{written_told}
use Rattle.uefi_file.proofs.handle.RegularFile.write.Goals as goal

pub returns : goal.returns
returns g c = search (rules, written_told)
