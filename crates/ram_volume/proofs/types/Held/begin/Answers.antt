use Rattle.std.proofs.Common.{List, Option, refl, ap, ◌∙◌, arith}
use Rattle.volume.specs.Calls.{on}
use Rattle.volume.specs.declared.handle.Handle.{Handle}
use Rattle.ram_volume.specs.Meaning.{held_of}
use Rattle.ram_volume.proofs.Helds.{opened_held}
use Rattle.ram_volume.proofs.types.Held.begin.Goals as goal

pub returns : goal.returns
returns g c =
    let v = c.args.self.now in
    let files = g.S.BlockStore.contents v.store in
    record {
      number = c.args.number;
      fresh = c.requires.vacant.free;
      answer = refl;
      held = ap (λ (hs : List (Option Handle)). held_of v.nodes.rows files hs v.misused) c.put.ensures
          ∙ opened_held v.nodes.rows files v.handles.rows v.misused c.args.number (on c.args.node c.args.writable) (omega (arith, v.handles.long, c.requires.vacant.within)) c.requires.vacant.free;
    }
