use Rattle.std.proofs.Common.{◌≡◌, length, ap, arith}
use Rattle.block_store.specs.Contents.{contents_of}
use Rattle.block_store.specs.Parts.{length_contents}
use Rattle.block_store.proofs.chained.ChainedStoreBlockStore.read.Goals as goal

pub returns-then-count-gt0-clause-count : goal.returns-then-count-gt0-clause-count
returns-then-count-gt0-clause-count c =
    let b = c.args.self.now in
    let e : c.in-Some.slot.index ≡ c.args.slot = c.in-Some.ensures in
    omega (arith, length_contents b c.in-Some.slot.index, ap (λ g. length (contents_of b g)) e)

pub returns-else-count-gt0-clause-count : goal.returns-else-count-gt0-clause-count
returns-else-count-gt0-clause-count c =
    let b = c.args.self.now in
    let e : c.in-Some.slot.index ≡ c.args.slot = c.in-Some.ensures in
    omega (arith, length_contents b c.in-Some.slot.index, ap (λ g. length (contents_of b g)) e)
