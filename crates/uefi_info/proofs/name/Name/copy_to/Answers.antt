use Rattle.std.proofs.lemmas.Iterator.Consumers.{YieldsList-from_first, YieldsList-from_enumerate, YieldsList-turn, YieldsList-end}
use Rattle.std.proofs.lemmas.List.FromFn.{length-enumerate_from}
use Rattle.std.proofs.Common.{◌≤◌, length, ◌∙◌, length-append, arith}
use Rattle.uefi_info.specs.Names.{units_left}
use Rattle.uefi_info.specs.Records.{units_of}
use Rattle.uefi_info.proofs.UnitLists.{copy_more, copy_all}
use Rattle.uefi_info.proofs.name.Name.copy_to.Goals as goal

pub loop-place-preserved : goal.loop-place-preserved
loop-place-preserved c =
    let us = units_of c.args.self.now.bytes.now in
    let turn = YieldsList-turn (YieldsList-from_enumerate (YieldsList-from_first (λ u. u) units_left us (cc)) (cc))
    c.loop-place.yielded c.loop-place.place-iterator c.loop-place.yielded_by c.next.result c.next.new.self (c.in-Some.place, c.in-Some.unit) c.in-Some.is c.next.ensures.steps in
    let room : length us ≤ length c.args.out.now = omega (arith, c.len-count.ensures) in
    let step = copy_more c.args.out.now us c.loop-place.out (length c.loop-place.yielded) c.in-Some.place c.in-Some.unit turn.0 turn.1 room c.loop-place.invariant in
    rw length-append step

pub returns-clause-after : goal.returns-clause-after
returns-clause-after c =
    let us = units_of c.args.self.now.bytes.now in
    let end = YieldsList-end (YieldsList-from_enumerate (YieldsList-from_first (λ u. u) units_left us (cc)) (cc))
    c.loop-place.yielded c.loop-place.place-iterator c.loop-place.yielded_by c.next.result c.next.new.self c.in-None.is c.next.ensures.steps in
    copy_all c.args.out.now us c.loop-place.out _ c.len-count.result c.len-count.ensures (end.1 ∙ length-enumerate_from 0 us) c.loop-place.invariant
