use Rattle.std.proofs.Common.{ap}
use Rattle.uefi_time.specs.Times.{time_of, time_errors, any_error}
use Rattle.uefi_time.proofs.time.Time.invalid.Goals as goal

pub returns : goal.returns
unfolding time_of
returns c = record { value = c.from.ensures.1; refused = ap (λ t. any_error (time_errors t)) c.from.ensures.0 }
