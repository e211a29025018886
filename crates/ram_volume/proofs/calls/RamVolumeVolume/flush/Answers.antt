use Rattle.std.proofs.Common.{refl}
use Rattle.volume.specs.Calls.{Through}
use Rattle.ram_volume.proofs.Standings.{stands}
use Rattle.ram_volume.proofs.calls.RamVolumeVolume.flush.Goals as goal

pub returns : goal.returns
returns g c =
    let s = c.in-Some.ensures in
    record { does = Through.goes c.in-Some.field-0.handle (stands s.1 s.0) refl (refl, refl); reported = refl }
