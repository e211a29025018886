use Rattle.std.proofs.Common.{refl, arith}
use Rattle.uefi_path.proofs.Pieces.{more, here, nowhere}
use Rattle.uefi_path.proofs.units.before_separator.Goals as goal

pub loop-i-init : goal.loop-i-init
loop-i-init c = (omega arith, refl)

pub loop-i-preserved : goal.loop-i-preserved
loop-i-preserved c = (omega arith, more c.args.text.now c.loop-i.i (omega arith) c.loop-i.invariant.1 c.if-text-i-ne-SEPARATOR.true)

pub returns-else-text-i-ne-SEPARATOR : goal.returns-else-text-i-ne-SEPARATOR
returns-else-text-i-ne-SEPARATOR c = record { within = c.loop-i.invariant.0; first = here c.args.text.now c.loop-i.i c.loop-i.invariant.1 (omega arith) c.if-text-i-ne-SEPARATOR.false }

pub returns-after-loop-i : goal.returns-after-loop-i
returns-after-loop-i c = record { within = c.loop-i.invariant.0; first = nowhere c.args.text.now c.loop-i.i c.loop-i.invariant.1 (omega arith) }
