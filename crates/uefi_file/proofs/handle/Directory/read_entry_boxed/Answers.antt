use Rattle.std.proofs.Common.{[], None, Ok, sym, refl, ap}
use Rattle.uefi_result.specs.Errors.{told_err}
use Rattle.volume.specs.Scripts.{done, ◌then◌}
use Rattle.volume.proofs.Running.{runs_then, runs_true, runs_false}
use Rattle.uefi_file.specs.Handles.{by_status}
use Rattle.uefi_file.specs.Infos.{reading_entry}
use Rattle.uefi_file.specs.Boxes.{fetching_entry, boxing, entry_boxed, end_in, looked}
use Rattle.uefi_file.proofs.Telling.{some_told}
use Rattle.uefi_file.proofs.handle.Directory.read_entry_boxed.Goals as goal

pub returns-then-is_end : goal.returns-then-is_end
returns-then-is_end g c =
    let k = c.args.self.now.handle.number in
    let old = c.args.buffer.now in
    let x = told_err c.read_entry-look.result in
    runs_then (reading_entry k []) (looked k old) _ _ _ (x, c.read_entry-look.new.buffer) _ c.read_entry-look.ensures
    (runs_true (end_in x) (done (Ok None, old)) (boxing (fetching_entry k) old then entry_boxed) _ _ _ (sym c.if-is_end.ensures) (refl, refl))

pub returns : goal.returns
returns g c =
    let k = c.args.self.now.handle.number in
    let old = c.args.buffer.now in
    let x = told_err c.read_entry-look.result in
    let after = c.make_boxed.new.buffer in
    runs_then (reading_entry k []) (looked k old) _ _ _ (x, c.read_entry-look.new.buffer) _ c.read_entry-look.ensures
    (runs_false (end_in x) (done (Ok None, old)) (boxing (fetching_entry k) old then entry_boxed) _ _ _ (sym c.if-is_end.ensures)
    (runs_then (boxing (fetching_entry k) old) entry_boxed _ _ _ (by_status c.make_boxed.result, after) _ c.make_boxed.ensures
    (ap (λ z. (z, after)) (some_told (λ e. e.status.0) c.make_boxed.result c.map.result c.map.ensures.cases), refl)))
