use Rattle.std.proofs.Common.{◌≡◌, ℕ, ◌+◌, ◌*◌, ◌-◌, ◌/◌, ◌%◌, ◌<◌, ◌≤◌, min, length, take, drop, slice_index, vec_items, sym, ap, ◌∙◌, subst, arith}
use borrow.Rule.Slice.PartMut.{put_mid}
use Rattle.std.proofs.lemmas.List.{length-take, length-drop, take_all}
use Rattle.block_store.specs.Contents.{size_of, contents_of}
use Rattle.block_store.specs.Places.{placed, held_by}
use Rattle.block_store.specs.Walks.{walk_more}
use Rattle.block_store.specs.Wholes.{part_read, fetch_more}
use Rattle.block_store.proofs.types.ChainedStore.fetch.Goals as goal

pub loop-place-preserved : goal.loop-place-preserved
loop-place-preserved c =
    let b = c.args.self.now in
    let f = c.args.slot.index in
    let file = c.args.slot.within in
    let p = c.args.position in
    let out = c.loop-place.out in
    let part = c.copy_from_slice.new.self in
    let bytes = contents_of b f in
    let q = c.loop-place.place in
    let from = c.max-from.result in
    let end = p + length c.args.out.now in
    let n = from - p in
    let k = (c.min-to.result - p) - n in
    let live : 512 * q < end = omega arith in
    let place : q ≡ from / 512 = omega arith in
    let found : c.loop-place.block ≡ placed b.chains f (from / 512) = c.loop-place.invariant.1 live ∙ ap (placed b.chains f) place in
    let room : from + k ≤ size_of b f = omega arith in
    let short : from % 512 + k ≤ 512 = omega arith in
    let here : from / 512 < held_by b.chains f = omega (arith, b.sized f file) in
    let at = 512 * c.loop-place.block + from % 512 in
    let span : (at + (c.min-to.result - from)) - at ≡ k = omega arith in
    let start : from ≡ p + n = omega arith in
    let read : part ≡ take k (drop (p + n) bytes) =
    c.copy_from_slice.ensures.after ∙ ap (λ z. take z (drop at c.deref.result.now)) span ∙ ap (λ m. take k (drop at m)) c.deref.ensures.value ∙
    ap (λ x. take k (drop (512 * x + from % 512) (vec_items b.memory))) found ∙ part_read b f from k file room short here ∙ ap (λ m. take k (drop m bytes)) start in
    let low : n ≤ length out = omega arith in
    let long : length part ≡ k = omega (arith, c.copy_from_slice.ensures.len, length-take k (drop n out), length-drop n out) in
    let done : min (512 * q) end - p ≡ n = omega arith in
    let more : n + k ≡ min (512 * (q + 1)) end - p = omega arith in
    let before = subst (λ (m : ℕ). take m out ≡ take m (drop p bytes)) done c.loop-place.invariant.0 in (
      subst (λ (m : ℕ). take m (put_mid n k out part) ≡ take m (drop p bytes)) more (fetch_more out part bytes p n k k low (omega arith) before (take_all k part (omega arith) ∙ read)),
      (λ l. c.after-block.ensures ∙ ap (λ x. slice_index b.chains.next x) (c.loop-place.invariant.1 live) ∙ sym (walk_more b.chains.next _ q)),
    )
