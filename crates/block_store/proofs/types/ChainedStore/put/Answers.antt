use Rattle.std.proofs.Common.{◌≡◌, ◌+◌, ◌*◌, ◌-◌, ◌/◌, ◌%◌, ◌<◌, ◌≤◌, min, length, take, drop, slice_index, vec_items, sym, refl, ap, ◌∙◌, arith}
use lib.Seq.{paste}
use borrow.Rule.Slice.PartMut.{put_mid}
use Rattle.std.proofs.lemmas.List.Edits.{length-paste}
use Rattle.std.proofs.lemmas.List.{length-take, length-drop, with_items_is}
use Rattle.std.proofs.lemmas.Slice.{put_mid-paste}
use Rattle.block_store.specs.Contents.{size_of}
use Rattle.block_store.specs.Parts.{part_fits, part_copied}
use Rattle.block_store.specs.Places.{placed, held_by, size_in}
use Rattle.block_store.specs.Walks.{walk_more}
use Rattle.block_store.specs.Wholes.{put_more}
use Rattle.block_store.proofs.types.ChainedStore.put.Goals as goal

pub loop-place-preserved : goal.loop-place-preserved
loop-place-preserved c =
    let b = c.args.self.now in
    let d = c.loop-place.self in
    let f = c.args.slot.index in
    let file = c.args.slot.within in
    let p = c.args.position in
    let xs = c.args.bytes.now in
    let q = c.loop-place.place in
    let from = c.max-from.result in
    let end = p + length xs in
    let n = from - p in
    let r = (c.min-to.result - p) - n in
    let s = take r (drop n xs) in
    let long : length s ≡ r = omega (arith, length-take r (drop n xs), length-drop n xs) in
    let live : 512 * q < end = omega arith in
    let place : q ≡ from / 512 = omega arith in
    let found : c.loop-place.block ≡ placed d.chains f (from / 512) = c.loop-place.invariant.1 live ∙ ap (placed d.chains f) place in
    let size : size_of d f ≡ size_of b f = ap (λ t. size_in t f) c.loop-place.invariant.0.chains in
    let room : from + r ≤ size_of d f = omega arith in
    let short : from % 512 + r ≤ 512 = omega arith in
    let here : from / 512 < held_by d.chains f = omega (arith, d.sized f file) in
    let at = 512 * c.loop-place.block + from % 512 in
    let k = (at + (c.min-to.result - from)) - at in
    let m = vec_items d.memory in
    let ws = put_mid at k c.deref_mut.result.now c.copy_from_slice.new.self in
    let span : r ≡ k = omega arith in
    let e : ws ≡ paste m (512 * placed d.chains f (from / 512) + from % 512) s r =
    put_mid-paste at k c.deref_mut.result.now c.copy_from_slice.new.self s r c.copy_from_slice.ensures.after span (sym long) ∙
    ap (λ z. paste z at s r) c.deref_mut.ensures.value ∙ ap (λ x. paste m (512 * x + from % 512) s r) found in
    let same : length ws ≡ d.memory.len = ap length e ∙ length-paste m _ s r (part_fits d f from r file room short here) (omega arith) ∙ sym d.memory.ok.0 in
    let done : min (512 * q) end - p ≡ n = omega arith in
    let start : from ≡ p + n = omega arith in
    let more : n + r ≡ min (512 * (q + 1)) end - p = omega arith in (
      put_more b d _ f p from _ n r _ xs file c.requires (omega arith) (omega arith) done start more c.loop-place.invariant.0
          (part_copied d f from r file room short here _ s long refl (with_items_is d.memory ws same ∙ e)),
      (λ l. c.after-block.ensures ∙ ap (λ x. slice_index d.chains.next x) (c.loop-place.invariant.1 live) ∙ sym (walk_more d.chains.next _ q)),
    )
