use Rattle.std.proofs.Common.{◌∷◌, sym, ap, ◌∙◌, arith}
use Rattle.uefi_path.specs.Meaning.{units_of, remaining}
use Rattle.uefi_path.specs.Parents.{turned}
use Rattle.uefi_path.proofs.Spreads.{spread}
use Rattle.uefi_path.proofs.Joins.{joining_none, joining_more, joining_all, joining_fits, joining_text}
use Rattle.uefi_path.proofs.types.PathBuf.before_last.Goals as goal

pub loop-next-init : goal.loop-next-init
loop-next-init c = (
  tt,
  tt,
  joining_none (units_of c.args.path.now) _ c.in-Some.last.now _ c.args.path.now.short c.new-units.ensures
      (ap (λ i. c.in-Some.last.now ∷ remaining i) c.into_iter-next-iterator.ensures.into_iter_gives ∙ sym c.in-Some.ensures.steps ∙ c.components-components.ensures.value),
)

pub join_component-requires : goal.join_component-requires
join_component-requires c = omega (arith, c.loop-next.invariant.2.room, ap spread c.in-Some-next.ensures.steps)

pub loop-next-preserved : goal.loop-next-preserved
loop-next-preserved c = (
  tt,
  tt,
  rw c.join_component.ensures (joining_more _ _ _ _ c.loop-next.invariant.2 _ _ c.in-Some-next.ensures.steps),
)

pub invariant_of-to_path_buf : goal.invariant_of-to_path_buf
invariant_of-to_path_buf c =
    let none = c.in-None.ensures.steps.0 in
    record { short = joining_fits _ _ _ _ c.loop-next.invariant.2 none; text = joining_text _ _ _ _ c.loop-next.invariant.2 none c.args.path.now.text }

pub returns : goal.returns
returns c = c.to_path_buf.ensures ∙ ap turned (joining_all _ _ _ _ c.loop-next.invariant.2 c.in-None.ensures.steps.0)
