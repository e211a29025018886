-- Which paths may be handed to a volume.
use Rattle.std.specs.Prelude.{ℕ, Bool, List, [], ◌∷◌, Some, None, codes, Option, ◌==◌}
use Rattle.std.specs.List.{find, list_any}
use Rattle.std.specs.Option.{option_map, option_or}
use Rattle.uefi_types.specs.Refusal.{Refusal}
use Rattle.uefi_path.specs.Components.{components}

-- the ten characters that no file name on a FAT volume has: NUL and these
abbrev pub denied : ℕ → Bool
denied u = list_any (λ m. u == m) (0 ∷ codes "\"*/:<>?\\|")

-- refusals 1, 2 and 3, the last with the unit
abbrev pub empty : Refusal
empty = record { number = 1; values = [] }

abbrev pub empty_component : Refusal
empty_component = record { number = 2; values = [] }

abbrev pub illegal_char : ℕ → Refusal
illegal_char u = record { number = 3; values = u ∷ [] }

abbrev pub first_denied : List ℕ → Option ℕ
first_denied us = find denied us

abbrev pub fault_of : List ℕ → Option Refusal
fault_of [] = Some empty_component
fault_of (u ∷ us) = option_map illegal_char (first_denied (u ∷ us))

-- the first component that has a fault decides
abbrev pub first_fault : List (List ℕ) → Option Refusal
first_fault [] = None
first_fault (c ∷ cs) = option_or (fault_of c) (first_fault cs)

abbrev pub validate : List ℕ → Option Refusal
validate [] = Some empty
validate (u ∷ us) = first_fault (components (u ∷ us))
