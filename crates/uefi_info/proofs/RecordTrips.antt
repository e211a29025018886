-- Whole records: their length, what is read of a built one, and what is built of one that was read.
use Rattle.std.proofs.Common.{◌≡◌, ℕ, ◌+◌, ◌-◌, ◌*◌, ◌≤◌, true, not, ◌&&◌, eqb, ltb, leb, List, [], ◌∷◌, ◌++◌, length, take, drop, replicate, Some, None, Ok, Err, Option, sym, refl, ap, ◌∙◌, subst, append_assoc, arith, take-add}
use Rattle.std.proofs.lemmas.List.{length-append, length-replicate, length-take, length-drop, take_at, drop_at, drop-append-le, take-append-drop}
use Rattle.std.proofs.lemmas.Bool.{cond-false, cond_both, le-ltb, ltb-true, ltb-false, and_parts, and_from}
use Rattle.uefi_types.specs.Aligned.{padding, round_up}
use Rattle.uefi_types.specs.LittleEndian.{AreBytes}
use Rattle.uefi_result.specs.StatusCodes.{buffer_too_small}
use Rattle.uefi_types.specs.Units.{text_unit, is_text}
use Rattle.uefi_types.proofs.Endian.{bytes_take, bytes_drop}
use Rattle.uefi_info.specs.Parsed.{accepted, from_uefi, Reads}
use Rattle.uefi_info.specs.Records.{unit_bytes, units_of, name_length, record_size, record_length, unpadded, record_bytes, AreUnits, no_nul, NameIn, ZeroPadded}
use Rattle.uefi_info.proofs.RoundTrips.{unit_bytes_length, units_back, nul_found, Found, found}

-- a text has no NUL
pub text_no_nul : (us : List ℕ) → is_text us ≡ true → no_nul us ≡ true
text_no_nul [] h = refl
text_no_nul (u ∷ us) h =
    let p = and_parts (text_unit u) (is_text us) h in
    let q = and_parts (not (eqb u 0)) (not (leb 0xD800 u && leb u 0xDFFF)) p.0 in
    and_from _ _ q.0 (text_no_nul us p.1)

take_past : (p q : List ℕ) (k : ℕ) → length p ≤ k → take k (p ++ q) ≡ p ++ take (k - length p) q
take_past p q k l =
    let e : k ≡ length p + (k - length p) = omega arith in
    ap (λ j. take j (p ++ q)) e ∙ take-add (length p) (k - length p) (p ++ q) ∙
    (λ i. take_at p q (length p) refl i ++ take (k - length p) (drop_at p q (length p) refl i))

module _ (header us : List ℕ) (off al : ℕ) (sized : length header ≡ off) where
  pub unpadded_length : length (unpadded header us) ≡ record_size off (length us)
  unpadded_length =
      let a = length-append (header ++ unit_bytes us) (0 ∷ 0 ∷ []) in
      let b = length-append header (unit_bytes us) in
      let d = unit_bytes_length us in
      omega arith

  -- the length of a record's bytes
  pub record_length_lem : length (record_bytes al header us) ≡ record_length off al (length us)
  record_length_lem =
      let n = length (unpadded header us) in
      length-append (unpadded header us) (replicate (padding al n) 0) ∙ ap (λ k. n + k) (length-replicate (padding al n) 0) ∙
      ap (round_up al) unpadded_length

module _ {H : Type 0} (header_of : List ℕ → H) (h : H) (header us : List ℕ) (off al : ℕ) (sized : length header ≡ off)
    (back : (t : List ℕ) → header_of (header ++ t) ≡ h) (units : AreUnits us) (whole : no_nul us ≡ true) where
  -- a header and a name with its NUL are read, however much was written after them
  read_named : (tail : List ℕ) (w : ℕ) → record_size off (length us) ≤ w → record_length off al (length us) ≤ length (header ++ (unit_bytes us ++ (0 ∷ 0 ∷ tail))) →
      from_uefi header_of off al (header ++ (unit_bytes us ++ (0 ∷ 0 ∷ tail))) w ≡ Ok (h, us)
  read_named tail w l m =
      let n = length us in
      let name = unit_bytes us ++ (0 ∷ 0 ∷ []) in
      let body = unit_bytes us ++ (0 ∷ 0 ∷ tail) in
      let bytes = header ++ body in
      let long : length name ≡ 2 * (n + 1) = let e = length-append (unit_bytes us) (0 ∷ 0 ∷ []) in let d = unit_bytes_length us in omega arith in
      let written : take w bytes ≡ header ++ take (w - length header) body = take_past header body w (omega arith) in
      let left : drop off (take w bytes) ≡ take (w - length header) body = ap (drop off) written ∙ drop_at header (take (w - length header) body) off sized in
      let split : body ≡ name ++ tail = sym (append_assoc (unit_bytes us) (0 ∷ 0 ∷ []) tail) in
      let more = take (w - length header - length name) tail in
      let front : take (w - length header) body ≡ unit_bytes us ++ (0 ∷ 0 ∷ more) =
      ap (take (w - length header)) split ∙ take_past name tail (w - length header) (omega arith) ∙ append_assoc (unit_bytes us) (0 ∷ 0 ∷ []) more in
      let count : name_length (drop off (take w bytes)) ≡ Some n = ap name_length (left ∙ front) ∙ nul_found us more units whole in
      let names : units_of (take (2 * n) (drop off bytes)) ≡ us =
      ap (λ t. units_of (take (2 * n) t)) (drop_at header body off sized) ∙ ap units_of (take_at (unit_bytes us) (0 ∷ 0 ∷ tail) (2 * n) (unit_bytes_length us)) ∙ units_back us units in
      ap (accepted header_of off al bytes) count ∙ cond-false _ _ _ (le-ltb (length bytes) (record_length off al n) m) ∙ (λ i. Ok (back body i, names i))

  -- what is read of a built record: its header and its name
  pub read_built : (rest : List ℕ) (w : ℕ) → record_size off (length us) ≤ w → from_uefi header_of off al (record_bytes al header us ++ rest) w ≡ Ok (h, us)
  read_built rest w l =
      let tail = replicate (padding al (length (unpadded header us))) 0 ++ rest in
      let is : record_bytes al header us ++ rest ≡ header ++ (unit_bytes us ++ (0 ∷ 0 ∷ tail)) = simp append_assoc in
      let long = ap length (sym is) ∙ length-append (record_bytes al header us) rest ∙ ap (λ k. k + length rest) (record_length_lem header us off al sized) in
      ap (λ b. from_uefi header_of off al b w) is ∙ read_named tail w l (omega (arith, long))

module _ (bytes : List ℕ) (off written n : ℕ) (typed : AreBytes bytes) (count : name_length (drop off (take written bytes)) ≡ Some n) where
  abbrev it : Found (drop off (take written bytes)) n
  it = found (drop off (take written bytes)) n (bytes_drop off (take written bytes) (bytes_take written bytes typed)) count

  body_is : drop off bytes ≡ unit_bytes it.us ++ (0 ∷ 0 ∷ (it.named.0 ++ drop written bytes))
  body_is =
      let name = it.named.1 in
      let long = ap length name ∙ length-append (unit_bytes it.us) (0 ∷ 0 ∷ it.named.0) in
      let within : off ≤ length (take written bytes) = let d = length-drop off (take written bytes) in omega (arith, long) in
      ap (drop off) (sym (take-append-drop written bytes)) ∙ drop-append-le off (take written bytes) (drop written bytes) within ∙
      ap (λ t. t ++ drop written bytes) name ∙ append_assoc (unit_bytes it.us) (0 ∷ 0 ∷ it.named.0) (drop written bytes)

  front_long : length (unit_bytes it.us) ≡ 2 * n
  front_long = let k = it.count in let d = unit_bytes_length it.us in omega arith

  units_are : units_of (take (2 * n) (drop off bytes)) ≡ it.us
  units_are =
      ap (λ t. units_of (take (2 * n) t)) body_is ∙ ap units_of (take_at (unit_bytes it.us) (0 ∷ 0 ∷ (it.named.0 ++ drop written bytes)) (2 * n) front_long) ∙
      units_back it.us it.units

  -- the units that are read are the name in front of the first NUL
  pub name_read : NameIn (drop off (take written bytes)) (units_of (take (2 * n) (drop off bytes)))
  name_read = subst (NameIn (drop off (take written bytes))) (sym units_are) it.named

  pub name_count : length (units_of (take (2 * n) (drop off bytes))) ≡ n
  name_count = ap length units_are ∙ it.count

  name_bytes : take (2 * (n + 1)) (drop off bytes) ≡ unit_bytes it.us ++ (0 ∷ 0 ∷ [])
  name_bytes =
      let tail = it.named.0 ++ drop written bytes in
      let name = unit_bytes it.us ++ (0 ∷ 0 ∷ []) in
      let long : length name ≡ 2 * (n + 1) = let d = length-append (unit_bytes it.us) (0 ∷ 0 ∷ []) in let k = front_long in omega arith in
      ap (take (2 * (n + 1))) (body_is ∙ sym (append_assoc (unit_bytes it.us) (0 ∷ 0 ∷ []) tail)) ∙ take_at name tail (2 * (n + 1)) long

  -- what is built of a record that was read, where its header and its padding are as a build would write them: its own bytes
  pub rebuilt : (header : List ℕ) (al : ℕ) → record_length off al n ≤ length bytes → header ≡ take off bytes → ZeroPadded off al n bytes →
      record_bytes al header (units_of (take (2 * n) (drop off bytes))) ≡ take (record_length off al n) bytes
  rebuilt header al room clean zeros =
      let size = record_size off n in
      let front : unpadded header (units_of (take (2 * n) (drop off bytes))) ≡ take size bytes =
      (λ i. clean i ++ unit_bytes (units_are i) ++ (0 ∷ 0 ∷ [])) ∙ append_assoc (take off bytes) (unit_bytes it.us) (0 ∷ 0 ∷ []) ∙
      ap (λ t. take off bytes ++ t) (sym name_bytes) ∙ sym (take-add off (2 * (n + 1)) bytes) in
      let long : length (take size bytes) ≡ size = rw length-take (omega arith) in
      ap (λ t. t ++ replicate (padding al (length t)) 0) front ∙ ap (λ k. take size bytes ++ replicate (padding al k) 0) long ∙
      ap (λ t. take size bytes ++ t) (sym zeros) ∙ sym (take-add size (padding al size) bytes)

-- what reading answers means what it should
pub reads : {H : Type 0} (header_of : List ℕ → H) (off al : ℕ) (bytes : List ℕ) (written : ℕ) → AreBytes bytes → Reads off al bytes written (from_uefi header_of off al bytes written)
reads header_of off al bytes written typed = by (name_length (drop off (take written bytes))) refl
  where
    by : (o : Option ℕ) → name_length (drop off (take written bytes)) ≡ o → Reads off al bytes written (accepted header_of off al bytes o)
    by None e = (refl, λ us u nm. absurd (let f = sym e ∙ ap name_length nm.1 ∙ nul_found us nm.0 u nm.2 in let z : ◌≡◌ {A = ℕ} 0 1 = cc in omega arith))
    by (Some n) e =
        let us = units_of (take (2 * n) (drop off bytes)) in
        let count = name_count bytes off written n typed e in
        cond_both (ltb (length bytes) (record_length off al n)) (Err (buffer_too_small, Some (record_length off al n))) (Ok (header_of bytes, us)) (Reads off al bytes written)
        (λ l. (refl, ltb-true (length bytes) (record_length off al n) l, (us, name_read bytes off written n typed e, ap (record_length off al) (sym count))))
        (λ m. (name_read bytes off written n typed e, subst (λ k. record_length off al k ≤ length bytes) (sym count) (ltb-false (length bytes) (record_length off al n) m)))
