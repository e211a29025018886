use Rattle.std.proofs.Common.{◌≡◌, ◌*◌, ◌-◌, ◌<◌, min, take}
use Rattle.block_store.specs.Contents.{Overwritten}
use Rattle.block_store.specs.Places.{placed}
use Rattle.block_store.proofs.types.ChainedStore.put.Given as goal

-- what goes to the blocks before this one is written
abbrev pub invariant-loop-place : goal.invariant-loop-place
invariant-loop-place l =
    Overwritten l.initial.self l.self l.fn.slot.index l.position (take (min (512 * l.place) l.end - l.position) l.bytes) ×
    (512 * l.place < l.end → l.block ≡ placed l.self.chains l.fn.slot.index l.place)
