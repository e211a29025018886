use Rattle.std.proofs.Common.{◌-◌, ◌≤◌, max}
use Rattle.block_store.specs.Places.{held_by, Grown}
use Rattle.block_store.proofs.types.Chains.reserve.Given as goal

abbrev pub invariant-loop-step : goal.invariant-loop-step
invariant-loop-step l =
    Grown l.initial.self l.self l.slot.index (l._step - held_by l.initial.self l.slot.index) × (l._step ≤ max l.blocks (held_by l.initial.self l.slot.index))
