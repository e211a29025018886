use Rattle.std.proofs.Common.{arith}
use Rattle.block_store.specs.Files.{capacity}
use Rattle.block_store.specs.Slots.{capacity_small}
use Rattle.ram_volume.proofs.Files.{was_written}
use Rattle.ram_volume.proofs.types.Held.write.Goals as goal

pub overflow_add-position : goal.overflow_add-position
overflow_add-position g c =
    let s = c.args.self.now.store in
    let laws = g.met.S.BlockStore in
    omega (
      arith,
      c.write-count.ensures.count,
      capacity_small (g.S.BlockStore.contents s) (g.S.BlockStore.free s) (g.S.BlockStore.blocks s) (laws.slots s) (laws.limits s).1 (laws.whole s) c.args.at.handle.node,
    )

pub returns : goal.returns
returns g c =
    let v = c.args.self.now in
    let files = g.S.BlockStore.contents v.store in
    let wrote = c.write-count.ensures in
    was_written v.nodes.rows files v.handles.rows v.misused c.args.at c.requires.on c.requires.of_file _ (g.S.BlockStore.contents c.write-count.new.self) (capacity files (g.S.BlockStore.free v.store))
    c.args.bytes.now c.write-count.result wrote.count wrote.wrote c.advance.ensures
