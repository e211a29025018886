use Rattle.std.proofs.Common.{Ok, Err, refl, ap}
use Rattle.uefi_result.specs.Errors.{told}
use Rattle.volume.proofs.Running.{runs_then}
use Rattle.uefi_file.specs.Infos.{reading_entry}
use Rattle.uefi_file.specs.Boxes.{expected}
use Rattle.uefi_file.proofs.Telling.{left_with}
use Rattle.uefi_file.proofs.dir.DirectoryFetchData.fetch.Goals as goal

pub returns-in_err-read_entry : goal.returns-in_err-read_entry
returns-in_err-read_entry g c =
    let e = c.in_err-read_entry in
    rw (left_with c.from_residual.result e.field-0.0 c.from_residual.ensures.1)
    (runs_then (reading_entry c.args.self.now.handle.number c.args.buffer.now) expected _ _ _ (Err (told e.field-0.0), c.read_entry.new.buffer) _ e.ensures (refl, refl))

pub returns : goal.returns
returns g c =
    let e = c.in_ok-read_entry in
    runs_then (reading_entry c.args.self.now.handle.number c.args.buffer.now) expected _ _ _ (Ok e.field-0, c.read_entry.new.buffer) _ e.ensures
    (ap (λ z. (z, c.read_entry.new.buffer)) c.expected.ensures, refl)
