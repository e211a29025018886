-- The components of a path, as functions of its units.
use Rattle.std.specs.Prelude.{◌≡◌, ℕ, Bool, cond, not, List, [], ◌∷◌, length, drop, ◌==◌, nat_le}
use Rattle.std.specs.Cmp.Lexicographic.{pointwise}
use Rattle.std.specs.List.{slice_split, join_with_byte}
use Rattle.std.specs.Ordering.{on}

-- the separator `\`
abbrev pub sep : ℕ
sep = 0x5C

-- a text cut at each separator: at least one piece, and a piece may be empty
abbrev pub cut : List ℕ → List (List ℕ)
cut us = slice_split (λ u. u == sep) us

-- the empty text has no pieces
abbrev pub pieces : List ℕ → List (List ℕ)
pieces [] = []
pieces (u ∷ us) = cut (u ∷ us)

-- a text less one leading separator, and no more than one
abbrev pub unled : List ℕ → List ℕ
unled [] = []
unled (u ∷ us) = cond (u == sep) us (u ∷ us)

-- so the empty path and the separator alone have no components, and a trailing separator has an empty one behind it
abbrev pub components : List ℕ → List (List ℕ)
components us = pieces (unled us)

-- where in a text its first component begins; past the end, where it has none
abbrev pub start : List ℕ → ℕ
start [] = 1
start (u ∷ []) = cond (u == sep) 2 0
start (u ∷ (v ∷ vs)) = cond (u == sep) 1 0

-- the components from the unit i on, where one begins
abbrev pub components_from : ℕ → List ℕ → List (List ℕ)
components_from i us = cond (nat_le i (length us)) (cut (drop i us)) []

-- two paths are the same if their components are
abbrev pub SamePath : List ℕ → List ℕ → Type 0
SamePath us vs = components us ≡ components vs

-- whether they are
abbrev pub same_path : List ℕ → List ℕ → Bool
same_path = on components (pointwise (pointwise ◌==◌))

-- pieces joined by separators, the inverse of the cut
abbrev pub rejoined : List (List ℕ) → List ℕ
rejoined ps = join_with_byte sep ps

-- a unit that is no separator
abbrev pub no_sep : ℕ → Bool
no_sep u = not (u == sep)
