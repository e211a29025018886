use Rattle.std.proofs.Common.{◌≡◌, [], length, vec_items, refl, ap, ◌∙◌, arith}
use Rattle.block_store.specs.Contents.{contents_of}
use Rattle.block_store.specs.Files.{replaced}
use Rattle.block_store.specs.Parts.{length_contents}
use Rattle.block_store.specs.Slots.{replaced_is}
use Rattle.block_store.specs.Wholes.{freed, none_past}
use Rattle.block_store.proofs.chained.ChainedStoreBlockStore.clear.Goals as goal

pub returns-in-Some-clause-cleared : goal.returns-in-Some-clause-cleared
returns-in-Some-clause-cleared c =
    let b = c.args.self.now in
    let e : c.in-Some.slot.index ≡ c.args.slot = c.in-Some.ensures in
    freed (vec_items b.memory) b.chains c.release.new.self c.resize.new.self c.in-Some.slot.index c.release.ensures c.resize.ensures b.sized ∙ ap (λ f. replaced (contents_of b) f []) e

pub returns-in-Some-clause-spare : goal.returns-in-Some-clause-spare
returns-in-Some-clause-spare c =
    let b = c.args.self.now in
    let f = c.in-Some.slot.index in
    let e : f ≡ c.args.slot = c.in-Some.ensures in
    omega (arith, c.release.ensures.spare, c.resize.ensures.counts 64, b.sized f c.in-Some.slot.within, length_contents b f, ap (λ g. length (contents_of b g)) e)

pub returns-in_default-clause-cleared : goal.returns-in_default-clause-cleared
returns-in_default-clause-cleared c =
    let b = c.args.self.now in
    replaced_is (contents_of b) (contents_of b) c.args.slot _ (none_past b c.args.slot c.in_default.ensures) (λ g ne. refl)
