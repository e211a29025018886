use Rattle.std.proofs.Common.{ap, ◌∙◌}
use Rattle.uefi_path.specs.Components.{components}
use Rattle.uefi_path.specs.Meaning.{units_of}
use Rattle.uefi_path.proofs.Lawful.{parents}
use Rattle.uefi_path.proofs.types.Path.parent.Goals as goal

pub returns-clause-law : goal.returns-clause-law
returns-clause-law c = λ h. ap components c.before_last.ensures ∙ parents (units_of c.args.self.now) h
