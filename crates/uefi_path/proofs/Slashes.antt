-- What turning each `/` into the separator keeps, and a text whose end is turned in place.
use Rattle.std.proofs.Common.{◌≡◌, ℕ, ◌-◌, Bool, true, false, cond, not, eqb, List, [], ◌∷◌, ◌++◌, length, take, drop, sym, refl, ap, ◌∙◌, append_assoc, arith}
use Rattle.std.specs.List.{refill, list_all}
use Rattle.std.proofs.lemmas.List.{take_at, drop_at, take_rest, length-map, length-append}
use Rattle.std.proofs.lemmas.Bool.{and_parts, and_from}
use borrow.Rule.Slice.PartMut.{put_mid, post_of}
use Rattle.uefi_types.specs.Units.{text_unit, is_text}
use Rattle.uefi_path.specs.Components.{sep}
use Rattle.uefi_path.specs.Parents.{slash, turn, turned, no_slash}

turn_text : (u : ℕ) → text_unit u ≡ true → text_unit (turn u) ≡ true
turn_text u h = by (eqb u slash)
  where
    by : (b : Bool) → text_unit (cond b sep u) ≡ true
    by true = refl
    by false = h

turn_no_slash : (u : ℕ) → no_slash (turn u) ≡ true
turn_no_slash u = by (eqb u slash) refl
  where
    by : (b : Bool) → eqb u slash ≡ b → no_slash (cond b sep u) ≡ true
    by true e = refl
    by false e = ap not e

pub turned_text : (us : List ℕ) → is_text us ≡ true → is_text (turned us) ≡ true
turned_text [] h = refl
turned_text (u ∷ us) h =
    let p = and_parts (text_unit u) (is_text us) h in
    and_from _ _ (turn_text u p.0) (turned_text us p.1)

pub turned_slashless : (us : List ℕ) → list_all no_slash (turned us) ≡ true
turned_slashless [] = refl
turned_slashless (u ∷ us) = and_from _ _ (turn_no_slash u) (turned_slashless us)

-- us behind old, turned where they stand: v is what was lent from k on, and ys what was given back
module _ (old us xs v ys : List ℕ) (k : ℕ) (all : xs ≡ old ++ us) (lent : v ≡ xs) (from : k ≡ length old) (new : ys ≡ turned (take (length v - k) (drop k v))) where
  is : ys ≡ turned us
  is = new ∙ ap turned (take_rest v k ∙ ap (drop k) (lent ∙ all) ∙ drop_at old us k (sym from))

  front : take k v ≡ old
  front = ap (take k) (lent ∙ all) ∙ take_at old us k (sym from)

  whole : length (take k v ++ ys) ≡ length xs
  whole = omega (arith, length-append (take k v) ys, ap length front, ap length is, length-map us turn, ap length all, length-append old us)

  pub turned_behind : refill (length xs) xs (put_mid k (length v - k) v ys) ≡ old ++ turned us
  turned_behind =
      let post = post_of k (length v - k) v in
      let rest = drop (length (put_mid k (length v - k) v ys)) xs in
      ap (λ z. take (length xs) (z ++ rest)) (sym (append_assoc (take k v) ys post)) ∙ ap (take (length xs)) (append_assoc (take k v ++ ys) post rest)
      ∙ take_at (take k v ++ ys) (post ++ rest) (length xs) whole ∙ ap (λ z. z ++ ys) front ∙ ap (λ z. old ++ z) is
