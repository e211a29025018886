use Rattle.uefi_types.proofs.Endian.{write_more, write_all}
use Rattle.uefi_types.proofs.bytes.write_le.Goals as goal

pub loop-byte-preserved : goal.loop-byte-preserved
loop-byte-preserved c =
    write_more c.loop-byte.bytes _ c.loop-byte.byte-index _ c.loop-byte.rest c.loop-byte.auto.bytes c.loop-byte.invariant c.loop-byte-test.true

pub returns : goal.returns
returns c =
    write_all c.loop-byte.bytes _ c.loop-byte.byte-index _ c.loop-byte.rest c.loop-byte.auto.bytes c.loop-byte.invariant c.loop-byte-test.false
