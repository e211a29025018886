-- How a builder comes to its bytes.
use Rattle.std.proofs.Common.{◌≡◌, ℕ, suc, ◌+◌, ◌-◌, ◌*◌, ◌<◌, ◌≤◌, cond, ltb, List, [], ◌∷◌, ◌++◌, length, get_or, take, drop, replicate, None, Ok, Err, Result, sym, refl, ap, ◌∙◌, append_assoc, arith}
use borrow.Rule.Slice.PartMut.{put_mid, post_of}
use Rattle.std.proofs.lemmas.List.{length-append, length-take, length-drop, drop_all, append-nil, take_more}
use Rattle.std.proofs.lemmas.Bool.{cond-false, le-ltb}
use Rattle.std.specs.Int.{bytes_low_first}
use Rattle.uefi_types.specs.Aligned.{padding}
use Rattle.uefi_types.specs.LittleEndian.{le_bytes}
use Rattle.uefi_types.specs.Units.{first_bad}
use Rattle.uefi_info.specs.Parsed.{fitting, building, heading}
use Rattle.uefi_info.specs.Refusals.{short_refused}
use Rattle.uefi_info.specs.declared.name.ShortBuffer.{ShortBuffer}
use Rattle.uefi_info.specs.Records.{unit_bytes, record_size, record_length, unpadded, record_bytes}
use Rattle.uefi_info.proofs.Pasting.{put_more, put_known, le_whole}
use Rattle.uefi_info.proofs.RecordTrips.{unpadded_length}
use Rattle.uefi_info.proofs.RoundTrips.{unit_bytes_length}

unit_bytes_push : (us : List ℕ) (u : ℕ) → unit_bytes (us ++ u ∷ []) ≡ unit_bytes us ++ le_bytes 2 u
unit_bytes_push [] u = refl
unit_bytes_push (v ∷ us) u = ap (λ t. le_bytes 2 v ++ t) (unit_bytes_push us u)

-- one unit more
pub unit_more : (old us out part : List ℕ) (k : ℕ) → k < length us → out ≡ unit_bytes (take k us) ++ drop (2 * k) old → part ≡ bytes_low_first 0 2 (get_or us k 0) →
    put_mid (2 * k) (2 * k + 2 - 2 * k) out part ≡ unit_bytes (take (k + 1) us) ++ drop (2 * (k + 1)) old
unit_more old us out part k l inv p =
    let long : length (unit_bytes (take k us)) ≡ 2 * k = unit_bytes_length (take k us) ∙ (rw length-take (omega arith)) in
    let w : 2 * k + (2 * k + 2 - 2 * k) ≡ 2 * (k + 1) = omega arith in
    put_known old (unit_bytes (take k us)) part (le_bytes 2 (get_or us k 0)) out (2 * k) (2 * k + 2 - 2 * k) inv long (p ∙ le_whole 2 (get_or us k 0)) ∙
    (λ i. unit_bytes (take k us) ++ le_bytes 2 (get_or us k 0) ++ drop (w i) old) ∙
    ap (λ t. t ++ drop (2 * (k + 1)) old) (sym (ap unit_bytes (take_more us k 0 l) ∙ unit_bytes_push (take k us) (get_or us k 0)))

-- the header's part of the buffer has room for it
pub header_ok : (old : List ℕ) (off o : ℕ) (r : Result (Unit {0}) ShortBuffer) → o ≡ off → o ≤ length old → short_refused r ≡ heading off (take (o - 0) old) → r ≡ Ok tt
header_ok old off o (Ok u) at l v = refl
header_ok old off o (Err e) at l v =
    let long : off ≤ length (take (o - 0) old) = rw length-take (omega arith) in
    let never = v ∙ cond-false _ _ _ (le-ltb (length (take (o - 0) old)) off long) in absurd (cc)

module _ (old name hb : List ℕ) (off al o needed : ℕ) (sized : length hb ≡ off) (at : o ≡ off) (nd : needed ≡ record_length off al (length name)) (room : needed ≤ length old) where
  pub answer_is : None ≡ first_bad name → Ok needed ≡ building off al name old
  answer_is good =
      let l : record_length off al (length name) ≤ length old = rw nd at room in
      ap Ok nd ∙ sym (cond-false _ _ _ (le-ltb (length old) (record_length off al (length name)) l)) ∙ ap (fitting (length old) (record_length off al (length name))) good

  module _ (front units : List ℕ)
      (p : front ≡ cond (ltb (length (take (o - 0) old)) off) (take (o - 0) old) (hb ++ drop off (take (o - 0) old)))
      (q : units ≡ unit_bytes name) where
    first : front ++ post_of 0 (o - 0) old ≡ hb ++ drop o old
    first =
        let z : o - 0 ≡ o = omega arith in
        let long : length (take (o - 0) old) ≡ off = rw length-take (omega arith) in
        let e : front ≡ hb = p ∙ cond-false _ _ _ (le-ltb (length (take (o - 0) old)) off (omega arith)) ∙ ap (λ t. hb ++ t) (drop_all off (take (o - 0) old) (omega arith)) ∙ append-nil hb in
        λ i. e i ++ drop (z i) old

    abbrev named : List ℕ
    named = put_mid o (o + 2 * length name - o) (front ++ post_of 0 (o - 0) old) units

    second : named ≡ hb ++ unit_bytes name ++ drop (o + 2 * length name) old
    second =
        let w : o + (o + 2 * length name - o) ≡ o + 2 * length name = omega arith in
        put_more old hb units (front ++ post_of 0 (o - 0) old) o (o + 2 * length name - o) first (omega arith) ∙
        (λ i. hb ++ q i ++ drop (w i) old)

    abbrev pad : ℕ
    pad = padding al (record_size off (length name))

    rest_long : length (take (needed - (o + 2 * length name)) (drop (o + 2 * length name) named)) ≡ suc (suc pad)
    rest_long =
        let end = o + 2 * length name in
        let a = length-append (hb ++ unit_bytes name) (drop end old) in
        let b = length-append hb (unit_bytes name) in
        let d = unit_bytes_length name in
        let e = length-drop end old in
        let f = ap length second in
        let g = length-drop end named in
        length-take (needed - end) (drop end named) ∙ omega arith

    -- the buffer after the three writes
    pub bytes_are : (zeros : List ℕ) → zeros ≡ replicate (length (take (needed - (o + 2 * length name)) (drop (o + 2 * length name) named))) 0 →
        put_mid (o + 2 * length name) (needed - (o + 2 * length name)) named zeros ≡ record_bytes al hb name ++ drop needed old
    bytes_are zeros r =
        let end = o + 2 * length name in
        let w : end + (needed - end) ≡ needed = omega arith in
        let long : length (hb ++ unit_bytes name) ≡ end = let a = length-append hb (unit_bytes name) in let b = unit_bytes_length name in omega arith in
        let z = r ∙ ap (λ k. replicate k 0) rest_long in
        put_more old (hb ++ unit_bytes name) zeros named end (needed - end) second long ∙
        (λ i. hb ++ unit_bytes name ++ z i ++ drop (w i) old) ∙
        ap (λ t. t ++ drop needed old) (sym (append_assoc (hb ++ unit_bytes name) (0 ∷ 0 ∷ []) (replicate pad 0)) ∙ ap (λ k. unpadded hb name ++ replicate (padding al k) 0) (sym (unpadded_length hb name off al sized)))
