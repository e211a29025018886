-- An error as its status and its data.
use Rattle.std.specs.Prelude.{ℕ, Ok, Err, Result}
use Rattle.uefi_result.specs.declared.error.Error.{Error}

abbrev pub told : {D : Type 0} → Error D → ℕ × D
told e = (e.status.0, e.data)

abbrev pub told_err : {V D : Type 0} → Result V (Error D) → Result V (ℕ × D)
told_err (Ok v) = Ok v
told_err (Err e) = Err (told e)
