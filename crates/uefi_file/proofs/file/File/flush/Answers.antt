use Rattle.std.proofs.Common.{rules}
use Rattle.uefi_file.proofs.Telling.{done_told}
use Rattle.uefi_file.proofs.file.File.flush.Goals as goal

pub returns : goal.returns
returns g c = rw (← c.handle.ensures) (search (rules, done_told))
