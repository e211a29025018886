use Rattle.std.proofs.Common.{Ok, Err, refl}
use Rattle.volume.proofs.Running.{runs_then}
use Rattle.volume.specs.Scripts.{done}
use Rattle.uefi_file.specs.Handles.{directory_of}
use Rattle.uefi_file.proofs.Telling.{left_with}
use Rattle.uefi_file.proofs.file.File.is_directory.Goals as goal

pub returns-in_err-is_regular_file : goal.returns-in_err-is_regular_file
returns-in_err-is_regular_file g c =
    let e = c.in_err-is_regular_file in
    rw (left_with c.from_residual.result e.field-0.0 c.from_residual.ensures.1)
    (runs_then (g.Self.File.asking c.args.self.now) (λ r. done (directory_of r)) _ _ _ (Err e.field-0.0.status.0) _ e.ensures (refl, refl))

pub returns : goal.returns
returns g c =
    let e = c.in_ok-is_regular_file in
    runs_then (g.Self.File.asking c.args.self.now) (λ r. done (directory_of r)) _ _ _ (Ok e.field-0) _ e.ensures (refl, refl)
