use Rattle.uefi_info.specs.Infos.{file_info_bytes}
use Rattle.uefi_info.proofs.FileRecords.{file_record_length}
use Rattle.uefi_info.proofs.file_info.FileInfo.new.Goals as goal

pub returns : goal.returns
unfolding file_info_bytes
returns c =
    let e = c.build.ensures in
    let size = c.record_size.ensures in
    record {
      value = e.value;
      after = rw (size, ← e.value) at e.after;
      length = file_record_length c.args.file_size c.args.physical_size c.args.create_time c.args.last_access_time c.args.modification_time c.args.attribute.0 c.args.file_name.now;
      back = rw size at e.back;
    }
