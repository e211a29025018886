use Rattle.std.proofs.Common.{arith}
use Rattle.block_store.specs.Slots.{reach_small}
use Rattle.ram_volume.proofs.Files.{was_read}
use Rattle.ram_volume.proofs.types.Held.read.Goals as goal

pub overflow_add-position : goal.overflow_add-position
overflow_add-position g c =
    let s = c.args.self.now.store in
    let laws = g.met.S.BlockStore in
    omega (
      arith,
      c.read-count.ensures.count,
      reach_small (g.S.BlockStore.contents s) (g.S.BlockStore.free s) (g.S.BlockStore.blocks s) (laws.slots s) (laws.limits s).1 (laws.whole s) c.args.at.handle.node,
    )

pub returns-clause-held : goal.returns-clause-held
returns-clause-held g c =
    let v = c.args.self.now in
    let read = c.read-count.ensures in
    was_read v.nodes.rows (g.S.BlockStore.contents v.store) v.handles.rows v.misused c.args.at c.requires.on c.requires.of_file _ c.args.buffer.now c.read-count.new.out c.read-count.result read.count read.bytes c.advance.ensures
