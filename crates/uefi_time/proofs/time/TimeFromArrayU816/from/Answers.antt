use Rattle.std.proofs.Common.{rules, ap, ◌∙◌}
use Rattle.uefi_time.specs.Times.{time_bytes}
use Rattle.uefi_time.proofs.TimeBytes.{bytes_of_time}
use Rattle.uefi_time.proofs.time.TimeFromArrayU816.from.Goals as goal

pub returns : goal.returns
returns c = (c.read.ensures, ap time_bytes c.read.ensures ∙ bytes_of_time c.args.bytes (search rules) (search rules))
