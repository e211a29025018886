use Rattle.std.proofs.Common.{[], ◌∷◌, arith}
use Rattle.volume.specs.Tree.{directory}
use Rattle.ram_volume.proofs.Tellings.{child_listed}
use Rattle.ram_volume.proofs.types.Held.next.Goals as goal

pub returns-in_err-next : goal.returns-in_err-next
returns-in_err-next g c = rw c.from_residual.ensures (c.in_err-next.ensures (g.S.BlockStore.contents c.args.self.now.store))

pub returns-in-Dot : goal.returns-in-Dot
returns-in-Dot g c =
    let next = rw c.in-Dot.is at c.in_ok-next.ensures in
    record { name = 46 ∷ []; content = directory; next = next (g.S.BlockStore.contents c.args.self.now.store); describes = c.directory.ensures; near = omega arith }

pub returns-in-DotDot : goal.returns-in-DotDot
returns-in-DotDot g c =
    let next = rw c.in-DotDot.is at c.in_ok-next.ensures in
    record { name = 46 ∷ 46 ∷ []; content = directory; next = next (g.S.BlockStore.contents c.args.self.now.store); describes = c.directory-in-DotDot.ensures; near = omega arith }

pub returns-in-Child : goal.returns-in-Child
returns-in-Child g c =
    let v = c.args.self.now in
    child_listed v.nodes.rows (g.S.BlockStore.contents v.store) c.args.handle.node c.args.handle.position c.in-Child.n c.about.result (rw c.in-Child.is at c.in_ok-next.ensures) c.about.ensures
