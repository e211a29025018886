use Rattle.std.proofs.Common.{ℕ, length, Some, refl, ap}
use Rattle.std.proofs.lemmas.Result.{err_from_is_err_and}
use Rattle.volume.specs.Calls.{Through, Reports}
use Rattle.ram_volume.proofs.Standings.{on_directory, on_file, stands}
use Rattle.ram_volume.proofs.Tellings.{informed, sized}
use Rattle.ram_volume.proofs.calls.RamVolumeVolume.get_info.Goals as goal

pub returns-in_err-len-clause-step : goal.returns-in_err-len-clause-step
returns-in_err-len-clause-step g c =
    let v = c.args.self.now.held in
    let s = c.in-Some.ensures in
    let p = err_from_is_err_and c.from_residual.result c.from_residual.ensures.1 in
    rw (p.1, p.2) (record {
      does = Through.goes c.in-Some.at.handle (stands s.1 s.0) refl
          (informed s.1 (g.S.BlockStore.contents v.store) c.about-about.result c.about-about.ensures v.misused (length c.args.buffer.now) _ c.in_err-len.ensures.told);
      reported = refl;
    })

pub returns-in-File-clause-step : goal.returns-in-File-clause-step
returns-in-File-clause-step g c =
    let v = c.args.self.now.held in
    let files = g.S.BlockStore.contents v.store in
    let at = c.in-Some.at in
    let s = c.in-Some.ensures in
    record {
      does = Through.goes at.handle (stands s.1 s.0) refl (informed s.1 files c.about-about.result c.about-about.ensures v.misused (length c.args.buffer.now) _ c.in_ok-len.ensures.told);
      reported = Reports.of_file at.handle _ (stands s.1 s.0) (on_file s.1 files c.in-File.is)
          (ap (λ (n : ℕ). Some (record { file = at.handle.node; size = n })) (sized s.1 files c.about-about.result c.about-about.ensures c.in-File.is));
    }

pub returns-in_default-kind-clause-step : goal.returns-in_default-kind-clause-step
returns-in_default-kind-clause-step g c =
    let v = c.args.self.now.held in
    let files = g.S.BlockStore.contents v.store in
    let s = c.in-Some.ensures in
    record {
      does = Through.goes c.in-Some.at.handle (stands s.1 s.0) refl (informed s.1 files c.about-about.result c.about-about.ensures v.misused (length c.args.buffer.now) _ c.in_ok-len.ensures.told);
      reported = Reports.of_directory c.in-Some.at.handle (stands s.1 s.0) (on_directory s.1 files c.in_default-kind.is) refl;
    }
