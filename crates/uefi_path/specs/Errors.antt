-- The numbers and values of the refusals that concern paths.
use Rattle.std.specs.Prelude.{ℕ, cond, List, [], ◌∷◌, length, Some, None, Option, nat_lt}
use Rattle.std.specs.Option.{option_map}
use Rattle.uefi_types.specs.Refusal.{Refusal}
use Rattle.uefi_types.specs.Units.{first_bad}
use Rattle.uefi_path.specs.Validity.{empty, empty_component, illegal_char}
use Rattle.uefi_path.specs.declared.validation.PathError.{PathError}
use Rattle.uefi_path.specs.declared.validation.PathError.TheVariants.{Empty, EmptyComponent, IllegalChar}
use Rattle.uefi_path.specs.declared.path.NewPathError.{NewPathError}
use Rattle.uefi_path.specs.declared.path.NewPathError.TheVariants.{PathTooLong, BadUnit}
use Rattle.uefi_path.specs.declared.pathbuf.TooLong.{TooLong}

abbrev pub path_too_long : Refusal
path_too_long = record { number = 16; values = [] }

abbrev pub bad_unit : ℕ → Refusal
bad_unit at = record { number = 21; values = at ∷ [] }

abbrev pub path_error : PathError → Refusal
path_error Empty = empty
path_error EmptyComponent = empty_component
path_error (IllegalChar unit) = illegal_char unit

abbrev pub new_path_error : NewPathError → Refusal
new_path_error PathTooLong = path_too_long
new_path_error (BadUnit at) = bad_unit at

abbrev pub too_long : TooLong → Refusal
too_long e = path_too_long

-- a path is refused above 256 units, and then at the first unit that may not stand in a text
abbrev pub checked : List ℕ → Option Refusal
checked us = cond (nat_lt 256 (length us)) (Some path_too_long) (option_map bad_unit (first_bad us))

-- a text that was made longer is refused above 256 units
abbrev pub fitted : List ℕ → Option Refusal
fitted us = cond (nat_lt 256 (length us)) (Some path_too_long) None

-- what a path holds that was to become `after`: itself, where that is refused
abbrev pub kept_or : List ℕ → List ℕ → List ℕ
kept_or before after = cond (nat_lt 256 (length after)) before after
