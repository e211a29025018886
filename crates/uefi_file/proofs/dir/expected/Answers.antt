use Rattle.uefi_file.proofs.Telling.{unwrapped, expected_told}
use Rattle.uefi_file.proofs.dir.expected.Goals as goal

pub returns : goal.returns
returns c = expected_told c.args.found c.unwrap.result c.ok_or.result (unwrapped c.new.result c.unwrap.result _ c.unwrap.ensures c.new.ensures) c.ok_or.ensures.value
