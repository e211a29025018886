use Rattle.uefi_info.proofs.FileRecords.{file_a}
use Rattle.uefi_info.proofs.file_info.FileInfo.from_uefi.Goals as goal

pub returns : goal.returns
returns c =
    let e = c.from_uefi.ensures in
    record { value = e.value; law = e.law; back = e.back; one_unit_name = file_a c.args.buffer.now c.args.written _ e.one_unit_name }
