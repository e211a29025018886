use Rattle.std.proofs.Common.{◌∙◌}
use Rattle.uefi_info.proofs.Building.{unit_more}
use Rattle.uefi_info.proofs.info.put_units.Goals as goal

pub loop-k-preserved : goal.loop-k-preserved
loop-k-preserved c =
    unit_more c.args.out.now c.args.units.now c.loop-k.out c.copy_from_slice.new.self c.loop-k.k c.loop-k-test.true c.loop-k.invariant (c.copy_from_slice.ensures.after ∙ c.to_le_bytes.ensures)
