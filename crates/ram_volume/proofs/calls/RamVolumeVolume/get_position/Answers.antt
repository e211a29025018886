use Rattle.std.proofs.Common.{refl}
use Rattle.volume.specs.Calls.{Through, GetPosition}
use Rattle.ram_volume.proofs.Standings.{on_directory, on_file, stands}
use Rattle.ram_volume.proofs.calls.RamVolumeVolume.get_position.Goals as goal

pub returns-in-Directory : goal.returns-in-Directory
returns-in-Directory g c =
    let s = c.in-Some.ensures in
    record {
      does = Through.goes c.in-Some.at.handle (stands s.1 s.0) refl
          (GetPosition.no_file (on_directory s.1 (g.S.BlockStore.contents c.args.self.now.held.store) c.in-Directory.is) (record { answer = c.refusal.ensures; held = refl }));
      reported = refl;
    }

pub returns-in-File : goal.returns-in-File
returns-in-File g c =
    let s = c.in-Some.ensures in
    record {
      does = Through.goes c.in-Some.at.handle (stands s.1 s.0) refl (GetPosition.of_file _ (on_file s.1 (g.S.BlockStore.contents c.args.self.now.held.store) c.in-File.is) refl refl);
      reported = refl;
    }
