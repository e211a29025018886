use Rattle.std.proofs.Common.{◌≡◌, ap, ◌∙◌}
use Rattle.uefi_time.specs.Times.{time_of}
use Rattle.uefi_info.specs.Infos.{file_info_of, file_info_header}
use Rattle.uefi_info.specs.Layouts.{file_info_bytes_lem}
use Rattle.uefi_info.proofs.file_info.FileInfoInfoInternal.read_header.Goals as goal

pub returns : goal.returns
unfolding file_info_of
returns c =
    let bs = c.args.bytes.now in
    let value : _ ≡ file_info_of bs = λ i. record {
      size = c.read_field.ensures.value i;
      file_size = c.read_field-2.ensures.value i;
      physical_size = c.read_field-3.ensures.value i;
      create_time = (c.read.ensures ∙ ap time_of c.part.ensures) i;
      last_access_time = (c.read-2.ensures ∙ ap time_of c.part-2.ensures) i;
      modification_time = (c.read-3.ensures ∙ ap time_of c.part-3.ensures) i;
      attribute = record { 0 = c.read_field-4.ensures.value i };
    } in
    record { value = value; back = λ l _. ap file_info_header value ∙ file_info_bytes_lem bs (λ i. (c.type_inv.bytes i).fits) l }
