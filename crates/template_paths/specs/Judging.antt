-- What the program's judgement of a line means.
use Rattle.std.specs.Prelude.{◌≡◌, true, Some, Ok, Err, Result}
use Rattle.uefi_path.specs.Errors.{path_error}
use Rattle.uefi_path.specs.Laws.{valid}
use Rattle.uefi_path.specs.Meaning.{units_of}
use Rattle.uefi_path.specs.Validity.{validate}
use Rattle.uefi_path.specs.declared.types.Path.{Path}
use Rattle.template_paths.specs.declared.entry.Refusal.{Refusal}
use Rattle.template_paths.specs.declared.entry.Refusal.TheVariants.{NotUcs2, NoPath, Invalid}

-- a path that is accepted is valid, and one that is refused is refused by validation for just that
abbrev pub Judged : Result Path Refusal → Type 0
Judged (Ok p) = valid (units_of p) ≡ true
Judged (Err (NotUcs2 at character)) = Unit {0}
Judged (Err (NoPath e)) = Unit {0}
Judged (Err (Invalid p e)) = validate (units_of p) ≡ Some (path_error e)
