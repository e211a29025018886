use Rattle.std.proofs.Common.{arith}
use Rattle.ram_tables.proofs.Grids.{row_in}
use Rattle.ram_tables.proofs.Listing.{at_child}
use Rattle.ram_tables.proofs.tables.NodeTable.next.Goals as goal

pub returns : goal.returns
returns c =
    let ((x, e, (from, p)), none) = c.in_ok-n.ensures in
    let rows = c.args.self.now.rows in
    let is = c.max-first.ensures in (
      x,
      e,
      omega (arith, row_in rows c.in_ok-n.n x e, c.args.self.now.long),
      λ bytes. at_child rows bytes c.args.d c.args.position c.else-d-ne-ROOT.either c.in_ok-n.n x e p (omega arith) (λ k y h l q. none k y l q (omega arith)),
    )
