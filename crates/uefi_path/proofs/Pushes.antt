-- A path pushed behind a text, case by case.
use Rattle.std.proofs.Common.{◌≡◌, ℕ, ◌≤◌, true, false, eqb, List, [], ◌∷◌, ◌++◌, length, sym, refl, ap, ◌∙◌, append_assoc}
use Rattle.std.specs.List.{list_all}
use Rattle.std.proofs.lemmas.List.{map-append}
use Rattle.std.proofs.lemmas.Bool.{and_parts, not-true, cond-false, le-ltb, both_ways}
use Rattle.uefi_path.specs.Components.{sep}
use Rattle.uefi_path.specs.Parents.{slash, turn, turned, no_slash, is_empty, pushed}
use Rattle.uefi_path.specs.Errors.{kept_or}

turn_same : (u : ℕ) → no_slash u ≡ true → turn u ≡ u
turn_same u h = cond-false _ _ _ (not-true (eqb u slash) h)

-- a text with no `/` stays
pub turned_same : (us : List ℕ) → list_all no_slash us ≡ true → turned us ≡ us
turned_same [] h = refl
turned_same (u ∷ us) h =
    let p = and_parts (no_slash u) (list_all no_slash us) h in
    ap (λ v. v ∷ turned us) (turn_same u p.0) ∙ ap (λ vs. u ∷ vs) (turned_same us p.1)

pub push_first : (t us : List ℕ) → is_empty us ≡ false → is_empty t ≡ true → t ++ turned us ≡ pushed t us
push_first t [] h k = absurd (both_ways true h refl)
push_first [] (u ∷ us) h k = refl
push_first (v ∷ vs) (u ∷ us) h k = absurd (both_ways false refl k)

pub push_behind : (t us : List ℕ) → is_empty us ≡ false → is_empty t ≡ false → list_all no_slash t ≡ true → (t ++ turned (sep ∷ [])) ++ turned us ≡ pushed t us
push_behind t [] h k s = absurd (both_ways true h refl)
push_behind [] (u ∷ us) h k s = absurd (both_ways true k refl)
push_behind (v ∷ vs) (u ∷ us) h k s =
    append_assoc (v ∷ vs) (turned (sep ∷ [])) (turned (u ∷ us))
    ∙ ap (λ z. z ++ turned (sep ∷ (u ∷ us))) (sym (turned_same (v ∷ vs) s))
    ∙ sym (map-append turn (v ∷ vs) (sep ∷ (u ∷ us)))

pub taken_after : (t us : List ℕ) → length us ≤ 256 → kept_or t us ≡ us
taken_after t us l = cond-false _ _ _ (le-ltb 256 (length us) l)
