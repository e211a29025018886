use Rattle.std.proofs.Common.{◌∙◌}
use Rattle.uefi_path.proofs.Pieces.{has_sep}
use Rattle.uefi_path.proofs.units.has_separator.Goals as goal

pub returns : goal.returns
returns c = c.contains.ensures.value ∙ has_sep c.args.text.now
