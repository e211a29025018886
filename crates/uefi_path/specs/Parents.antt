-- `/` turned into the separator, the parent of a path, and a path pushed behind a text.
use Rattle.std.specs.Prelude.{ℕ, Bool, true, false, cond, not, ◌&&◌, ◌||◌, List, [], ◌∷◌, ◌++◌, map, Some, None, Option, ◌==◌}
use Rattle.std.specs.List.{list_all}
use Rattle.uefi_path.specs.Components.{sep, no_sep, components}

abbrev pub slash : ℕ
slash = 0x2F

abbrev pub turn : ℕ → ℕ
turn u = cond (u == slash) sep u

-- every `/` turned into a separator
abbrev pub turned : List ℕ → List ℕ
turned us = map turn us

abbrev pub no_slash : ℕ → Bool
no_slash u = not (u == slash)

abbrev pub is_empty : {X : Type 0} → List X → Bool
is_empty [] = true
is_empty (x ∷ xs) = false

abbrev pub ends_in_sep : List ℕ → Bool
ends_in_sep [] = false
ends_in_sep (u ∷ []) = u == sep
ends_in_sep (u ∷ (v ∷ vs)) = ends_in_sep (v ∷ vs)

-- one component more behind a text: with no separator between where the text is empty or ends in one
abbrev pub with_component : List ℕ → List ℕ → List ℕ
with_component text c = cond (is_empty text || ends_in_sep text) (text ++ c) (text ++ sep ∷ c)

abbrev pub joined_to : List ℕ → List (List ℕ) → List ℕ
joined_to text [] = text
joined_to text (c ∷ cs) = joined_to (with_component text c) cs

abbrev pub but_last : {X : Type 0} → List X → List X
but_last [] = []
but_last (x ∷ []) = []
but_last (x ∷ (y ∷ ys)) = x ∷ but_last (y ∷ ys)

abbrev pub has_parent : List ℕ → Bool
has_parent us = not (is_empty (components us)) && not (list_all no_sep us)

-- there is no parent without components or without a separator; else it is the components but the last, joined
abbrev pub parent : List ℕ → Option (List ℕ)
parent us = cond (has_parent us) (Some (turned (joined_to [] (but_last (components us))))) None

-- an empty path adds nothing; any other goes behind a separator, unless the text is empty
abbrev pub pushed : List ℕ → List ℕ → List ℕ
pushed text [] = text
pushed text (u ∷ us) = turned (cond (is_empty text) (u ∷ us) (text ++ sep ∷ (u ∷ us)))

abbrev pub joined : List ℕ → List ℕ → List ℕ
joined us vs = pushed (turned us) vs
