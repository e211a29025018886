use Rattle.std.proofs.Common.{refl, arith}
use Rattle.uefi_file.proofs.Telling.{left_with}
use Rattle.uefi_file.proofs.Turning.{Turn, turned_none, turned_all, turn_refused, turn_short, turn_on}
use Rattle.uefi_file.proofs.regular.read_chunked.Given.{Over}
use Rattle.uefi_file.proofs.regular.read_chunked.Goals.{After-read}
use Rattle.uefi_file.proofs.regular.read_chunked.Goals as goal

turn : (g : Over) (c : After-read g) → Turn c.args.number c.args.buffer.now c.loop-start.buffer c.loop-start.start (g.V.Volume.meaning c.args.v.now) (g.V.Volume.meaning c.loop-start.v)
    c.turn_size-asked.result c.read.result c.read.new.buffer (g.V.Volume.meaning c.read.new.self)
turn g c = record {
  before = c.loop-start.invariant;
  same = c.loop-start.auto.buffer;
  some = c.loop-start-test.true;
  asks = c.turn_size-asked.ensures;
  kept = c.read.auto.buffer;
  step = c.read.ensures.step;
  fills = c.read.ensures.fills;
  within = c.read.ensures.within;
}

pub loop-start-init : goal.loop-start-init
loop-start-init g c = turned_none c.args.number c.args.buffer.now (g.V.Volume.meaning c.args.v.now)

pub returns-in_err-read : goal.returns-in_err-read
returns-in_err-read g c =
    let x = c.in_err-read.field-0.0 in
    rw (left_with c.from_residual.result x c.from_residual.ensures.1) (turn_refused (turn g (goal.at.returns-in_err-read g c).After-read) x.status.0 c.in_err-read.ensures)

pub returns-then-read-asked : goal.returns-then-read-asked
returns-then-read-asked g c = turn_short (turn g (goal.at.returns-then-read-asked g c).After-read) c.in_ok-read.read c.in_ok-read.ensures c.if-read-asked.true

pub loop-start-preserved : goal.loop-start-preserved
loop-start-preserved g c =
    turn_on (turn g (goal.at.loop-start-preserved g c).After-read) c.in_ok-read.read c.in_ok-read.ensures c.if-read-asked.false _ (omega arith)

pub returns-else-read-asked : goal.returns-else-read-asked
returns-else-read-asked g c =
    let m = g.V.Volume.meaning in
    turned_all c.args.number c.args.buffer.now _ _ (m c.args.v.now) _
    (turn_on (turn g (goal.at.returns-else-read-asked g c).After-read) c.in_ok-read.read c.in_ok-read.ensures c.if-read-asked.false _ refl) (omega arith)

pub returns : goal.returns
returns g c =
    let m = g.V.Volume.meaning in
    let l = c.loop-start in
    turned_all c.args.number c.args.buffer.now l.buffer l.start (m c.args.v.now) (m l.v) l.invariant c.loop-start-test.false
