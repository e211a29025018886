use Rattle.std.proofs.Common.{refl, inr}
use Rattle.std.proofs.lemmas.Result.{err_from_is_err_and}
use Rattle.ram_volume.proofs.Changing.{came, unmade}
use Rattle.ram_volume.proofs.types.Held.create.Goals as goal

pub returns-in-Made : goal.returns-in-Made
returns-in-Made g c =
    let v = c.args.self.now in
    let contents = g.S.BlockStore.contents in
    let x = rw c.in-Made.is at c.in_ok-n.ensures in
    inr (came v.nodes.rows c.enter.new.self.rows (contents v.store) (contents c.clear.new.self) v.handles.rows v.misused c.args.d c.args.name.now c.args.attribute.0
    c.contains.result c.in-Made.n (c.contains.ensures.directory refl) v.nodes.long x c.clear.ensures.cleared)

pub returns-in_err-n : goal.returns-in_err-n
returns-in_err-n g c =
    let v = c.args.self.now in
    let files = g.S.BlockStore.contents v.store in
    let p = err_from_is_err_and c.from_residual.result c.from_residual.ensures.1 in
    rw (p.1, p.2) (unmade v.nodes.rows c.enter.new.self.rows files files v.handles.rows v.misused c.args.d c.args.name.now c.args.attribute.0 c.contains.result c.in_err-n.field-0.0 c.in_err-n.ensures refl)
