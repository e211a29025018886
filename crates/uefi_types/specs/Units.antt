-- UCS-2 texts: lists of 16-bit units, none of them NUL or half of a surrogate pair.
use Rattle.std.specs.Prelude.{◌≡◌, ℕ, ◌<◌, Bool, true, false, not, ◌&&◌, List, length, take, Option, MatchOption, ◌==◌, nat_le, position, slice_index}
use Rattle.std.specs.List.{list_all}

-- whether a unit may stand in a text: the surrogates are D800h to DFFFh
abbrev pub text_unit : ℕ → Bool
text_unit u = not (u == 0) && not (nat_le 0xD800 u && nat_le u 0xDFFF)

-- whether all units of a list may
abbrev pub is_text : List ℕ → Bool
is_text us = list_all text_unit us

-- the place of the first unit that may not
abbrev pub first_bad : List ℕ → Option ℕ
first_bad us = position (λ u. not (text_unit u)) us

-- what such a place is: the units before it may stand in a text and its own may not; none, if all may
abbrev pub FirstBad : List ℕ → Option ℕ → Type 0
FirstBad us r =
    MatchOption r (is_text us ≡ true)
    (λ k. (k < length us) × (is_text (take k us) ≡ true) × (text_unit (slice_index us k) ≡ false))
