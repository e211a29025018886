use Rattle.std.proofs.Common.{◌≡◌, ◌*◌, ◌-◌, ◌<◌, min, take, drop}
use Rattle.block_store.specs.Contents.{contents_of}
use Rattle.block_store.specs.Places.{placed}
use Rattle.block_store.proofs.types.ChainedStore.fetch.Given as goal

-- what lies in the blocks before this one is read
abbrev pub invariant-loop-place : goal.invariant-loop-place
invariant-loop-place l =
    (take (min (512 * l.place) l.end - l.position) l.out ≡ take (min (512 * l.place) l.end - l.position) (drop l.position (contents_of l.self l.fn.slot.index))) ×
    (512 * l.place < l.end → l.block ≡ placed l.self.chains l.fn.slot.index l.place)
