-- The components of a text but the last, joined one after the other.
use Rattle.std.proofs.Common.{◌≡◌, ℕ, suc, ◌+◌, ◌-◌, ◌<◌, ◌≤◌, true, ◌||◌, eqb, List, [], ◌∷◌, ◌++◌, length, get_or, sym, refl, ap, ◌∙◌, arith}
use Rattle.std.proofs.lemmas.Bool.{cond_both}
use Rattle.std.proofs.lemmas.List.{length-append}
use Rattle.uefi_types.specs.Units.{text_unit, is_text}
use Rattle.uefi_path.specs.Components.{sep, components}
use Rattle.uefi_path.specs.Parents.{is_empty, ends_in_sep, with_component, joined_to, but_last}
use Rattle.uefi_path.proofs.Spreads.{spread, spread_components, all_components, all_joined, all_but_last}

-- whether a text ends in a separator shows at its last unit
pub ends_at : (us : List ℕ) → 0 < length us → ends_in_sep us ≡ eqb (get_or us (length us - 1) 0) sep
ends_at [] l = absurd (omega arith)
ends_at (u ∷ []) l = refl
ends_at (u ∷ (v ∷ vs)) l =
    let e : length (u ∷ (v ∷ vs)) - 1 ≡ suc (length (v ∷ vs) - 1) = omega arith in
    ends_at (v ∷ vs) (omega arith) ∙ rw e refl

length_with : (text c : List ℕ) → length (with_component text c) ≤ length text + 1 + length c
length_with text c =
    cond_both (is_empty text || ends_in_sep text) (text ++ c) (text ++ sep ∷ c) (λ us. length us ≤ length text + 1 + length c)
    (λ _. omega (arith, length-append text c)) (λ _. omega (arith, length-append text (sep ∷ c)))

-- with what is left behind `last`, the text so far comes to all components of us but the last, and there is room for them
pub record Joining (us text last : List ℕ) (rest : List (List ℕ)) : Type 0 where
  pub whole : joined_to text (but_last (last ∷ rest)) ≡ joined_to [] (but_last (components us))
  pub room : length text + spread (last ∷ rest) ≤ 257

pub joining_none : (us text last : List ℕ) (rest : List (List ℕ)) → length us ≤ 256 → text ≡ [] → last ∷ rest ≡ components us → Joining us text last rest
joining_none us text last rest l t e =
    record {
      whole = rw t (ap (λ cs. joined_to [] (but_last cs)) e);
      room = omega (arith, ap length t, ap spread e, spread_components us);
    }

module _ (us text last : List ℕ) (rest : List (List ℕ)) (h : Joining us text last rest) where
  pub joining_more : (next : List ℕ) (rest' : List (List ℕ)) → rest ≡ next ∷ rest' → Joining us (with_component text last) next rest'
  joining_more next rest' e =
      record {
        whole = sym (ap (λ r. joined_to text (but_last (last ∷ r))) e) ∙ h.whole;
        room = omega (arith, h.room, ap spread e, length_with text last);
      }

  module _ (e : rest ≡ []) where
    pub joining_all : text ≡ joined_to [] (but_last (components us))
    joining_all = sym (ap (λ r. joined_to text (but_last (last ∷ r))) e) ∙ h.whole

    pub joining_fits : length text ≤ 256
    joining_fits = omega (arith, h.room, ap spread e)

    pub joining_text : is_text us ≡ true → is_text text ≡ true
    joining_text t =
        ap is_text joining_all ∙ all_joined text_unit refl [] (but_last (components us)) refl
        (all_but_last is_text (components us) (all_components text_unit us t))
