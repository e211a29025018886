-- What a status makes of a call: a value where it succeeds, and an error with data where not.
use Rattle.std.specs.Prelude.{ℕ, cond, Some, None, Ok, Err, Option, Result}
use Rattle.uefi_result.specs.StatusCodes.{is_success}

-- a status, if it is no success
abbrev pub failing : ℕ → Option ℕ
failing s = cond (is_success s) None (Some s)

-- the same, with data
abbrev pub failure : {D : Type 0} → ℕ → D → Option (ℕ × D)
failure s d = cond (is_success s) None (Some (s, d))

-- what a call answers that comes to a status
abbrev pub answered : {V D : Type 0} → ℕ → V → D → Result V (ℕ × D)
answered s v d = cond (is_success s) (Ok v) (Err (s, d))
