use Rattle.std.proofs.Common.{◌≡◌, ◌≤◌, min, length, sym, ap, ◌∙◌, arith}
use Rattle.block_store.specs.Contents.{contents_of, free_of}
use Rattle.block_store.specs.Files.{replaced, overwritten, capacity}
use Rattle.block_store.specs.Parts.{length_contents}
use Rattle.block_store.specs.Places.{blocks_in}
use Rattle.block_store.specs.Slots.{overwritten_clipped}
use Rattle.block_store.specs.Wholes.{capacity_is, written, written_spare}
use Rattle.block_store.proofs.chained.ChainedStoreBlockStore.write.Goals as goal

pub returns : goal.returns
returns c =
    let b = c.args.self.now in
    let f = c.in-Some.slot.index in
    let file = c.in-Some.slot.within in
    let p = c.min-start.result in
    let r = c.min-count.result in
    let xs = c.args.bytes.now in
    let d = c.grow.new.self in
    let e = c.put.new.self in
    let named : f ≡ c.args.slot = c.in-Some.ensures in
    let long : r ≤ length xs = omega (arith, c.min-count.ensures) in
    let start : p ≡ min c.args.position (length (contents_of b f)) = c.min-start.ensures ∙ ap (min c.args.position) (c.size.ensures ∙ sym (length_contents b f)) in
    let clip = ap (λ q. overwritten (contents_of b f) q r xs) start ∙ overwritten_clipped (contents_of b f) c.args.position r xs in
    record {
      count = omega (arith, ap (λ g. capacity (contents_of b) (free_of b) g) named, capacity_is b f file, c.reach.ensures, c.saturating_sub.ensures, c.min-count.ensures);
      wrote = written b d e f p r xs file (omega (arith, start, length_contents b f)) long c.grow.ensures c.put.ensures ∙ ap (replaced (contents_of b) f) clip ∙ ap (λ g. replaced (contents_of b) g (overwritten (contents_of b g) c.args.position r xs)) named;
      spare = omega (arith, written_spare b d e f p r xs file (omega (arith, start, length_contents b f)) long c.grow.ensures c.put.ensures, ap (λ g. length (contents_of e g)) named, ap (λ g. length (contents_of b g)) named);
      same = ap blocks_in c.put.ensures.chains ∙ c.grow.ensures.same;
    }
