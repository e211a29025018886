use Rattle.std.proofs.Common.{◌≡◌, rules, Bool, Some, None, Ok, Err, Result, refl}
use Rattle.std.specs.Result.{result_ok}
use Rattle.uefi_result.specs.declared.error.Error.{Error}
use Rattle.volume.specs.Scripts.{Runs}
use Rattle.volume.specs.State.{State}
use Rattle.volume.proofs.Running.{runs_then}
use Rattle.uefi_file.specs.Handles.{type_of, by_type, typing, kept_as}
use Rattle.uefi_file.specs.declared.handle.FileType.{FileType}
use Rattle.uefi_file.proofs.handle.FileHandle.into_kind.Goals as goal

none_kept : (wanted : Bool) (r : Result FileType (Error (Unit {0}))) (u : State) → None ≡ result_ok r → Runs (kept_as wanted (by_type r)) u None u
none_kept wanted (Ok t) u e = cc
none_kept wanted (Err x) u e = (refl, refl)

known_type : (r : Result FileType (Error (Unit {0}))) (t : FileType) → Some t ≡ result_ok r → by_type r ≡ Ok (type_of t)
known_type (Ok s) t e = cc
known_type (Err x) t e = cc

pub returns-in_err-ok : goal.returns-in_err-ok
returns-in_err-ok g c =
    let t = c.into_type in
    rw c.from_residual.ensures
    (runs_then (typing c.args.self.number) (kept_as g.T.Kind.regular) _ _ _ (by_type t.result) None t.ensures (none_kept g.T.Kind.regular t.result _ c.in_err-ok.ensures.value))

pub returns-in-Ok : goal.returns-in-Ok
returns-in-Ok g c =
    let t = c.into_type in
    runs_then (typing c.args.self.number) (kept_as g.T.Kind.regular) _ _ _ (by_type t.result) _ t.ensures (rw (known_type t.result _ c.in_ok-ok.ensures.value, c.in-Ok.ensures) (refl, refl))

pub returns-in-Err : goal.returns-in-Err
returns-in-Err g c =
    let t = c.into_type in
    runs_then (typing c.args.self.number) (kept_as g.T.Kind.regular) _ _ _ (by_type t.result) _ t.ensures (rw (known_type t.result _ c.in_ok-ok.ensures.value, c.in-Err.ensures) (search rules))
