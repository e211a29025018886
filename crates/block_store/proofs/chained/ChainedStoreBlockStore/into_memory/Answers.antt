use Rattle.block_store.specs.Wholes.{kept_is}
use Rattle.block_store.proofs.chained.ChainedStoreBlockStore.into_memory.Goals as goal

pub returns-clause-kept : goal.returns-clause-kept
returns-clause-kept c = kept_is c.args.self
