use Rattle.std.proofs.Common.{Bool, sym, subst}
use Rattle.ram_volume.specs.Meaning.{held_of}
use Rattle.ram_volume.specs.Moves.{Deletes}
use Rattle.ram_volume.proofs.Changing.{went}
use Rattle.ram_volume.proofs.types.Held.remove.Goals as goal

pub returns-then-removed-clause-held : goal.returns-then-removed-clause-held
returns-then-removed-clause-held g c =
    let v = c.args.self.now in
    let contents = g.S.BlockStore.contents in
    let rows = c.remove-removed.new.self.rows in
    let files = contents c.clear.new.self in
    subst (λ (b : Bool). Deletes (held_of v.nodes.rows (contents v.store) v.handles.rows v.misused) c.args.n b (held_of rows files v.handles.rows v.misused)) (sym c.if-removed.true)
    (went v.nodes.rows rows (contents v.store) files v.handles.rows v.misused c.args.n c.if-removed.ensures c.clear.ensures.cleared)
