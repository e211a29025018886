use Rattle.uefi_info.specs.Infos.{file_system_info_bytes}
use Rattle.uefi_info.proofs.file_system_info.FileSystemInfo.new.Goals as goal

pub returns : goal.returns
unfolding file_system_info_bytes
returns c =
    let e = c.build.ensures in
    let size = c.record_size.ensures in
    record { value = e.value; after = rw (size, ← e.value) at e.after; back = rw size at e.back }
