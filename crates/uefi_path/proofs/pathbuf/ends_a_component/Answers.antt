use Rattle.std.proofs.Common.{arith}
use Rattle.std.proofs.lemmas.Grind.{common_steps}
use Rattle.uefi_path.proofs.Joins.{ends_at}
use Rattle.uefi_path.proofs.pathbuf.ends_a_component.Goals as goal

pub returns : goal.returns
returns c = grind (arith, common_steps, ends_at)
