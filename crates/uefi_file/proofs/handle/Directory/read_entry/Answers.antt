use Rattle.uefi_file.specs.Infos.{entry_at}
use Rattle.uefi_file.proofs.Telling.{left_with}
use Rattle.uefi_file.proofs.Fetching.{fetched_ok, fetched_err}
use Rattle.uefi_file.proofs.handle.Directory.read_entry.Goals as goal

pub returns-in_err-written : goal.returns-in_err-written
returns-in_err-written g c =
    let s = c.read in
    rw (left_with c.from_residual.result c.in_err-written.field-0.0 c.from_residual.ensures.1)
    (fetched_err entry_at _ s.result _ s.new.buffer _ _ s.ensures.step s.ensures.fills c.in_err-written.field-0.0 c.in_err-written.ensures.cases)

pub returns : goal.returns
returns g c =
    let s = c.read in
    fetched_ok entry_at _ s.result _ s.new.buffer _ _ s.ensures.step s.ensures.fills c.in_ok-written.written _ c.in_ok-written.ensures.cases c.entry.ensures
