-- How a reader comes to its answer.
use Rattle.std.proofs.Common.{◌≡◌, ℕ, ◌*◌, ◌<◌, ◌≤◌, List, [], ◌∷◌, length, take, drop, Some, None, Ok, Err, Option, Result, sym, ap, ◌∙◌, subst, arith}
use Rattle.std.proofs.lemmas.List.{drop-take, take-take}
use Rattle.std.proofs.lemmas.Bool.{cond-true, cond-false, lt-ltb, le-ltb}
use Rattle.uefi_types.specs.LittleEndian.{AreBytes}
use Rattle.uefi_result.specs.StatusCodes.{bad_buffer_size, buffer_too_small}
use Rattle.uefi_info.specs.Parsed.{accepted, from_uefi, OneUnitName, Rebuilds}
use Rattle.uefi_info.specs.Records.{name_length, units_of, record_length, ZeroPadded}
use Rattle.uefi_info.proofs.RecordTrips.{name_count, rebuilt}

module _ {H : Type 0} (header_of : List ℕ → H) (off al : ℕ) (bytes : List ℕ) (written : ℕ) (name : List ℕ) (t : name ≡ drop off (take written bytes)) where
  pub no_name : None ≡ name_length name → Err (bad_buffer_size, None) ≡ from_uefi header_of off al bytes written
  no_name s = ap (accepted header_of off al bytes) (s ∙ ap name_length t)

  module _ (n needed : ℕ) (s : Some n ≡ name_length name) (r : needed ≡ record_length off al n) where
    named : accepted header_of off al bytes (Some n) ≡ from_uefi header_of off al bytes written
    named = ap (accepted header_of off al bytes) (s ∙ ap name_length t)

    pub too_small : length bytes < needed → Err (buffer_too_small, Some needed) ≡ from_uefi header_of off al bytes written
    too_small l =
        let l' : length bytes < record_length off al n = rw r at l in
        ap (λ k. Err (buffer_too_small, Some k)) r ∙ sym (cond-true _ _ _ (lt-ltb (length bytes) (record_length off al n) l')) ∙ named

    module _ (o : ℕ) (p : o ≡ off) (view : List ℕ) (v : view ≡ take (2 * n) (drop o bytes)) (room : needed ≤ length bytes) where
      room' : record_length off al n ≤ length bytes
      room' = rw r at room

      pub enough : (h : H) → h ≡ header_of bytes → Ok (h, units_of view) ≡ from_uefi header_of off al bytes written
      enough h e =
          (λ i. Ok (e i, units_of ((v ∙ ap (λ k. take (2 * n) (drop k bytes)) p) i))) ∙
          sym (cond-false _ _ _ (le-ltb (length bytes) (record_length off al n) room')) ∙ named

      -- what was read is built again
      pub again : (h : H) (header_bytes : H → List ℕ) (clean : List ℕ → Type 0) → AreBytes bytes → (off ≤ length bytes → clean bytes → header_bytes h ≡ take off bytes) →
          Rebuilds {E = ℕ × Option ℕ} header_bytes clean off al bytes (Ok (h, units_of view))
      again h header_bytes clean typed same =
          let count : name_length (drop off (take written bytes)) ≡ Some n = sym (s ∙ ap name_length t) in
          let k : length (units_of (take (2 * n) (drop off bytes))) ≡ n = name_count bytes off written n typed count in
          let l = room' in
          let within : off ≤ length bytes = omega arith in
          subst (λ u. Rebuilds {E = ℕ × Option ℕ} header_bytes clean off al bytes (Ok (h, units_of u))) (sym (v ∙ ap (λ k. take (2 * n) (drop k bytes)) p))
          (λ c z. rebuilt bytes off written n typed count (header_bytes h) al l (same within c) (subst (λ j. ZeroPadded off al j bytes) k z) ∙ ap (λ j. take (record_length off al j) bytes) (sym k))

-- what the definition answers for the name A
pub one_unit : {H : Type 0} (header_of : List ℕ → H) (off al : ℕ) (bytes : List ℕ) (written : ℕ) (r : Result (H × List ℕ) (ℕ × Option ℕ)) → r ≡ from_uefi header_of off al bytes written → OneUnitName header_of off al bytes written r
one_unit header_of off al bytes written r e w name =
    let front : drop off (take written bytes) ≡ 0x41 ∷ 0 ∷ 0 ∷ 0 ∷ [] = ap (λ k. drop off (take k bytes)) w ∙ drop-take off 4 bytes ∙ name in
    let is : r ≡ accepted header_of off al bytes (Some 1) = e ∙ ap (λ s. accepted header_of off al bytes (name_length s)) front in
    let us : units_of (take 2 (drop off bytes)) ≡ 0x41 ∷ [] = ap units_of (sym (take-take 2 4 (drop off bytes) (omega arith)) ∙ ap (take 2) name) in (
      λ l. is ∙ cond-true _ _ _ (lt-ltb (length bytes) (record_length off al 1) l),
      λ l. is ∙ cond-false _ _ _ (le-ltb (length bytes) (record_length off al 1) l) ∙ ap (λ t. Ok (header_of bytes, t)) us,
    )
