use Rattle.std.proofs.Common.{refl}
use Rattle.volume.specs.Calls.{Close, close}
use Rattle.ram_volume.proofs.Standings.{renumbered}
use Rattle.ram_volume.proofs.calls.RamVolumeVolume.close.Goals as goal

pub returns : goal.returns
returns g c =
    let s = c.in-Some.ensures in
    renumbered close s.0 (record { does = Close.closes c.in-Some.at.handle s.1.opened refl c.end.ensures.held; reported = refl })
