use Rattle.std.proofs.Common.{◌≡◌, not, eqb, ap, ◌∙◌}
use Rattle.uefi_info.specs.Infos.{file_system_info_of, file_system_info_header}
use Rattle.uefi_info.specs.Layouts.{file_system_info_bytes_lem}
use Rattle.uefi_info.proofs.file_system_info.FileSystemInfoInfoInternal.read_header.Goals as goal

pub returns : goal.returns
unfolding file_system_info_of
returns c =
    let bs = c.args.bytes.now in
    let value : _ ≡ file_system_info_of bs = λ i. record {
      size = c.read_field.ensures.value i;
      read_only = not (eqb (c.read_field-2.ensures.value i) 0);
      volume_size = c.read_field-3.ensures.value i;
      free_space = c.read_field-4.ensures.value i;
      block_size = c.read_field-5.ensures.value i;
    } in
    record { value = value; back = λ l clean. ap file_system_info_header value ∙ file_system_info_bytes_lem bs (λ i. (c.type_inv.bytes i).fits) l clean }
