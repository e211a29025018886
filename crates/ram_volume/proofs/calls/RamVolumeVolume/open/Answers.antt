use Rattle.std.proofs.Common.{ℕ, Option, Bool, [], refl, ap, ◌∙◌, subst}
use Rattle.std.proofs.lemmas.Result.{err_from_is_err_and}
use Rattle.volume.specs.Calls.{Through, OpenFrom, Opened, on, accepted}
use Rattle.volume.specs.declared.handle.Handle.{Handle}
use Rattle.ram_volume.proofs.Standings.{on_directory, on_file, stands}
use Rattle.ram_volume.specs.Meaning.{ram_held}
use Rattle.ram_volume.proofs.calls.RamVolumeVolume.open.Goals as goal

pub returns-in_err-number : goal.returns-in_err-number
returns-in_err-number g c =
    let v = c.args.self.now.held in
    let at = c.in-Some.at in
    let p = err_from_is_err_and c.from_residual.result c.from_residual.ensures.1 in
    let q = c.in_err-number.ensures in
    rw (p.1, p.2) (record {
      does = Through.goes at.handle (stands c.in-Some.ensures.1 c.in-Some.ensures.0) refl (OpenFrom.spent q.0 (record { answer = q.1; held = refl }));
      reported = refl;
    })

pub returns-in-File : goal.returns-in-File
returns-in-File g c =
    let v = c.args.self.now.held in
    let at = c.in-Some.at in
    let s = c.in-Some.ensures in
    let q = c.in_ok-number.ensures in
    record {
      does = Through.goes at.handle (stands s.1 s.0) refl
          (OpenFrom.no_directory q.1 _ (on_file s.1 (g.S.BlockStore.contents v.store) c.in-File.is) (record { answer = c.refusal.ensures; held = refl }));
      reported = refl;
    }

pub find-requires : goal.find-requires
find-requires g c =
    let v = c.args.self.now.held in
    on_directory c.in-Some.ensures.1 (g.S.BlockStore.contents v.store) c.in_default-kind.is

pub returns-in_err-node : goal.returns-in_err-node
returns-in_err-node g c =
    let v = c.args.self.now.held in
    let at = c.in-Some.at in
    let s = c.in-Some.ensures in
    let p = err_from_is_err_and c.from_residual-in_err-node.result c.from_residual-in_err-node.ensures.1 in
    let q = c.in_ok-number.ensures in
    rw (p.1, p.2) (record {
      does = Through.goes at.handle (stands s.1 s.0) refl
          (OpenFrom.walks q.1 (on_directory s.1 (g.S.BlockStore.contents v.store) c.in_default-kind.is) c.in_err-node.ensures);
      reported = refl;
    })

pub begin-requires-clause-vacant : goal.begin-requires-clause-vacant
begin-requires-clause-vacant g c =
    let q = c.in_ok-number.ensures in
    record { within = q.0.within; free = ap (λ (f : ℕ → Option Handle). f c.in_ok-number.number) c.in_ok-node.ensures.1 ∙ q.0.free }

pub returns : goal.returns
returns g c =
    let v = c.args.self.now.held in
    let contents = g.S.BlockStore.contents in
    let at = c.in-Some.at in
    let s = c.in-Some.ensures in
    let q = c.in_ok-number.ensures in
    let (there, same, opens) = c.in_ok-node.ensures in
    record {
      does = Through.goes at.handle (stands s.1 s.0) refl
          (OpenFrom.walks q.1 (on_directory s.1 (contents v.store) c.in_default-kind.is)
          (opens _ _ (subst (λ (b : Bool). Opened (on c.in_ok-node.node b) (ram_held contents c.find.new.self) (accepted c.in_ok-number.number []) (ram_held contents c.begin.new.self)) c.is_writing.ensures c.begin.ensures)));
      reported = refl;
    }
