use Rattle.std.proofs.Common.{rules}
use Rattle.uefi_file.proofs.file.File.close.Goals as goal

pub returns : goal.returns
returns g c = rw (← c.into_handle-number.ensures) (search rules)
