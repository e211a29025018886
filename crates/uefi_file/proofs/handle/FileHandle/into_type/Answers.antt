use Rattle.std.proofs.Common.{rules, Ok, Err, refl, ap}
use Rattle.volume.proofs.Running.{runs_then}
use Rattle.uefi_file.specs.Handles.{asking_regular, typed}
use Rattle.uefi_file.proofs.handle.FileHandle.into_type.Goals as goal

pub returns-in-Ok-true : goal.returns-in-Ok-true
returns-in-Ok-true g c =
    let k = c.args.self.number in
    let a = c.in-Ok-true in
    runs_then (asking_regular k) (typed k) _ _ _ (Ok a.field-0) _ a.ensures (ap (λ b. Ok (b, k)) a.field-0-test, refl)

pub returns-in-Ok-false : goal.returns-in-Ok-false
returns-in-Ok-false g c =
    let k = c.args.self.number in
    let a = c.in-Ok-false in
    runs_then (asking_regular k) (typed k) _ _ _ (Ok a.field-0) _ a.ensures (ap (λ b. Ok (b, k)) a.field-0-test, refl)

pub returns-in-Err : goal.returns-in-Err
returns-in-Err g c =
    let k = c.args.self.number in
    runs_then (asking_regular k) (typed k) _ _ _ (Err c.in-Err.error.status.0) _ c.in-Err.ensures (search rules)
