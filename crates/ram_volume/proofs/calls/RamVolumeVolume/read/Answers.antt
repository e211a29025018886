use Rattle.std.proofs.Common.{ℕ, length, refl}
use Rattle.std.proofs.lemmas.Result.{err_from_is_err_and}
use Rattle.volume.specs.Calls.{Through, ReadOf, Lists, read}
use Rattle.ram_volume.specs.Meaning.{ram_held}
use Rattle.ram_volume.proofs.Standings.{renumbered, on_directory, stands}
use Rattle.ram_volume.proofs.Tellings.{listed, unlisted}
use Rattle.ram_volume.proofs.calls.RamVolumeVolume.read.Goals as goal

pub returns-in_default-next-clause-step : goal.returns-in_default-next-clause-step
returns-in_default-next-clause-step g c =
    let v = c.args.self.now.held in
    let at = c.in-Some.at in
    let s = c.in-Some.ensures in
    record {
      does = Through.goes at.handle (stands s.1 s.0) refl
          (ReadOf.of_directory (on_directory s.1 (g.S.BlockStore.contents v.store) c.in-Directory.is) (Lists.ends c.in_default-next.ensures refl refl));
      reported = refl;
    }

pub returns-in_err-len-in-Directory-clause-step : goal.returns-in_err-len-in-Directory-clause-step
returns-in_err-len-in-Directory-clause-step g c =
    let v = c.args.self.now.held in
    let at = c.in-Some.at in
    let s = c.in-Some.ensures in
    let p = err_from_is_err_and c.from_residual.result c.from_residual.ensures.1 in
    rw (p.1, p.2) (record {
      does = Through.goes at.handle (stands s.1 s.0) refl
          (ReadOf.of_directory (on_directory s.1 (g.S.BlockStore.contents v.store) c.in-Directory.is)
          (unlisted (ram_held g.S.BlockStore.contents v) c.args.handle (length c.args.buffer.now) at.handle c.in-Some-next.place c.in-Some-next.about c.in-Some-next.ensures c.in_err-len-in-Directory.field-0.0 c.in_err-len-in-Directory.ensures.told));
      reported = refl;
    })

pub returns-in_ok-len-in-Directory-clause-step : goal.returns-in_ok-len-in-Directory-clause-step
returns-in_ok-len-in-Directory-clause-step g c =
    let v = c.args.self.now.held in
    let contents = g.S.BlockStore.contents in
    let at = c.in-Some.at in
    let s = c.in-Some.ensures in
    renumbered (λ (k : ℕ). read k (length c.args.buffer.now)) s.0 (record {
      does = Through.goes at.handle s.1.opened refl
          (ReadOf.of_directory (on_directory s.1 (contents v.store) c.in-Directory.is)
          (listed (ram_held contents v) at.number (length c.args.buffer.now) at.handle c.in-Some-next.place c.in-Some-next.about c.in-Some-next.ensures _ c.in_ok-len-in-Directory.len c.tell.new.buffer c.in_ok-len-in-Directory.ensures.told c.advance.ensures));
      reported = refl;
    })

pub returns-in-File-clause-step : goal.returns-in-File-clause-step
returns-in-File-clause-step g c =
    let contents = g.S.BlockStore.contents in
    let at = c.in-Some.at in
    let s = c.in-Some.ensures in
    renumbered (λ (k : ℕ). read k (length c.args.buffer.now)) s.0 (record { does = Through.goes at.handle s.1.opened refl c.read.ensures.held; reported = refl })
