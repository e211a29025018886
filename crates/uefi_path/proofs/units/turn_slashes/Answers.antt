use Rattle.std.proofs.Common.{◌<◌, ◌++◌, length, get_or, drop, set, ap, ◌∙◌, append-nil, arith}
use Rattle.std.proofs.lemmas.List.{get_or_default, take_all, drop_all}
use Rattle.std.proofs.lemmas.List.Edits.{map_over_more}
use Rattle.uefi_path.specs.Parents.{turn, turned}
use Rattle.uefi_path.proofs.units.turn_slashes.Goals as goal

pub loop-unit-preserved : goal.loop-unit-preserved
loop-unit-preserved c =
    let xs = c.args.units.now in
    let ys = c.loop-unit.units in
    let i = c.loop-unit.unit-index in
    let x = get_or ys i 0 in
    let l : i < length ys = omega arith in
    ap (set ys i) c.turn_slash.ensures ∙ map_over_more turn xs ys i x c.loop-unit-test.true c.loop-unit.invariant (get_or_default ys i 0 x l)

pub returns : goal.returns
returns c =
    let xs = c.args.units.now in
    let i = c.loop-unit.unit-index in
    c.loop-unit.invariant ∙ ap (λ z. turned z ++ drop i xs) (take_all i xs c.loop-unit-test.false)
    ∙ ap (λ z. turned xs ++ z) (drop_all i xs c.loop-unit-test.false) ∙ append-nil (turned xs)
