use Rattle.std.proofs.Common.{◌∷◌}
use Rattle.uefi_path.specs.Meaning.{remaining}
use Rattle.ram_tables.proofs.Leading.{walking_on, walking_lost}
use Rattle.ram_tables.proofs.tables.NodeTable.follow.Goals as goal

pub loop-next-preserved : goal.loop-next-preserved
loop-next-preserved c = (
  tt,
  tt,
  walking_on c.args.self.now.rows c.args.from (c.args.last.now ∷ remaining c.args.rest) c.loop-next.last.now (remaining c.loop-next.rest) c.loop-next.d c.loop-next.invariant.2
      c.in-Some.next.now (remaining c.next.new.self) c.in-Some.ensures.steps c.in_ok-d.d c.in_ok-d.ensures,
)

pub returns-in_err-d : goal.returns-in_err-d
returns-in_err-d c =
    rw c.from_residual.ensures
    (walking_lost c.args.self.now.rows c.args.from (c.args.last.now ∷ remaining c.args.rest) c.loop-next.last.now (remaining c.loop-next.rest) c.loop-next.d c.loop-next.invariant.2
    c.args.self.now.whole c.in-Some.next.now (remaining c.next.new.self) c.in-Some.ensures.steps c.in_err-d.ensures)
