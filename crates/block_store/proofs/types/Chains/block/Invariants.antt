use Rattle.std.proofs.Common.{◌≡◌, ◌<◌}
use Rattle.block_store.specs.Places.{placed}
use Rattle.block_store.proofs.types.Chains.block.Given as goal

abbrev pub invariant-loop-step : goal.invariant-loop-step
invariant-loop-step l = (l.block ≡ placed l.self l.fn.slot.index l._step) × (l.block < 65536)
