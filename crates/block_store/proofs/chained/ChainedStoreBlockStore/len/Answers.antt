use Rattle.std.proofs.Common.{rules}
use Rattle.block_store.specs.Wholes.{length_file}
use Rattle.block_store.proofs.chained.ChainedStoreBlockStore.len.Goals as goal

pub returns : goal.returns
returns c =
    let e = length_file c.args.self.now c.args.slot in
    rw e (search rules)
