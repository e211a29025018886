use Rattle.volume.proofs.Lawful.{laws}
use Rattle.volume.proofs.laws.volume_laws_hold.Goals as goal

pub returns : goal.returns
returns c = laws
