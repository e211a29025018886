use Rattle.uefi_info.specs.declared.file_info.FileInfo.{FileInfo}
use Rattle.std.proofs.Common.{subst}
use Rattle.volume.specs.Scripts.{Runs}
use Rattle.uefi_file.specs.Boxes.{Boxed, boxing}
use Rattle.uefi_file.specs.Handles.{by_status}
use Rattle.uefi_file.specs.Infos.{fetching_info}
use Rattle.uefi_file.specs.declared.handle.FileHandle.{FileHandle}
use Rattle.uefi_file.proofs.file.File.get_boxed_info.Goals as goal

pub returns : goal.returns
returns g c =
    let m = g.V.Volume.meaning in
    let r : Boxed FileInfo = (by_status c.make_boxed.result, c.make_boxed.new.buffer) in
    subst (λ (h : FileHandle). Runs (boxing (fetching_info h.number) c.args.buffer.now) (m c.args.v.now) r (m c.make_boxed.new.v)) c.handle.ensures c.make_boxed.ensures
