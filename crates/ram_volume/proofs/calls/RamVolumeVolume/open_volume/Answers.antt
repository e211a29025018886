use Rattle.ram_tables.proofs.Known.{root_there}
use Rattle.ram_volume.proofs.calls.RamVolumeVolume.open_volume.Goals as goal

pub begin-requires-clause-there : goal.begin-requires-clause-there
begin-requires-clause-there g c = let v = c.args.self.now.held in root_there v.nodes.rows v.nodes.whole
