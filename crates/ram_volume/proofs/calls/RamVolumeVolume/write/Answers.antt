use Rattle.std.proofs.Common.{refl, inl, inr, arith}
use Rattle.std.proofs.lemmas.Bool.{not-true, not-false}
use Rattle.volume.specs.Calls.{Through, Write}
use Rattle.ram_volume.proofs.Files.{written}
use Rattle.ram_volume.proofs.Standings.{on_directory, stands}
use Rattle.ram_volume.proofs.calls.RamVolumeVolume.write.Goals as goal

pub returns-then-not-at : goal.returns-then-not-at
returns-then-not-at g c =
    let v = c.args.self.now.held in
    let at = c.in-Some.at in
    record {
      does = Through.goes at.handle (stands c.in-Some.ensures.1 c.in-Some.ensures.0) refl (Write.denied (not-true at.handle.writable c.if-not-at.true) (record { answer = c.refusal.ensures; held = refl }));
      reported = refl;
    }

pub returns-in-Directory : goal.returns-in-Directory
returns-in-Directory g c =
    let v = c.args.self.now.held in
    let at = c.in-Some.at in
    let s = c.in-Some.ensures in
    record {
      does = Through.goes at.handle (stands s.1 s.0) refl
          (Write.no_file (not-false at.handle.writable c.if-not-at.false) (on_directory s.1 (g.S.BlockStore.contents v.store) c.in-Directory.is) (record { answer = c.refusal-in-Directory.ensures; held = refl }));
      reported = refl;
    }

pub returns-then-count-bytes : goal.returns-then-count-bytes
returns-then-count-bytes g c =
    let v = c.args.self.now.held in
    let at = c.in-Some.at in
    let s = c.in-Some.ensures in
    record {
      does = Through.goes at.handle (stands s.1 s.0) refl
          (Write.of_file (not-false at.handle.writable c.if-not-at.false) (written _ _ at.number c.args.handle c.args.bytes.now at.handle c.write-count.result _ _ s.0 c.write-count.ensures (inr (c.if-count-bytes.true, c.refusal_with.ensures))));
      reported = refl;
    }

pub returns : goal.returns
returns g c =
    let v = c.args.self.now.held in
    let at = c.in-Some.at in
    let s = c.in-Some.ensures in
    record {
      does = Through.goes at.handle (stands s.1 s.0) refl
          (Write.of_file (not-false at.handle.writable c.if-not-at.false) (written _ _ at.number c.args.handle c.args.bytes.now at.handle c.write-count.result _ _ s.0 c.write-count.ensures (inl (omega (arith, c.write-count.ensures.counted), refl))));
      reported = refl;
    }
