use Rattle.std.proofs.Common.{[], ◌++◌, length, sym, refl, ap, ◌∙◌, arith}
use Rattle.std.proofs.lemmas.Bool.{cond-false, le-ltb}
use Rattle.uefi_types.specs.LittleEndian.{le_bytes}
use Rattle.uefi_time.specs.Times.{time_of, time_bytes}
use Rattle.uefi_info.specs.Infos.{file_info_header}
use Rattle.uefi_info.specs.Layouts.{file_info_back}
use Rattle.uefi_info.proofs.Pasting.{put_known, le_whole}
use Rattle.uefi_info.proofs.file_info.FileInfoInfoInternal.write_header.Goals as goal

pub returns-clause-after : goal.returns-clause-after
unfolding file_info_header time_bytes
returns-clause-after c =
    let h = c.args.self.now in
    let old = c.args.out.now in
    let size = le_bytes 8 h.size in
    let file_size = size ++ le_bytes 8 h.file_size in
    let physical_size = file_size ++ le_bytes 8 h.physical_size in
    let created = physical_size ++ time_bytes h.create_time in
    let accessed = created ++ time_bytes h.last_access_time in
    let modified = accessed ++ time_bytes h.modification_time in
    let p1 = put_known old [] _ size old 0 8 refl refl (c.copy_from_slice.ensures.after ∙ c.to_le_bytes.ensures ∙ le_whole 8 h.size) in
    let p2 = put_known old size _ (le_bytes 8 h.file_size) _ 8 8 p1 refl (c.copy_from_slice-2.ensures.after ∙ c.to_le_bytes-2.ensures ∙ le_whole 8 h.file_size) in
    let p3 = put_known old file_size _ (le_bytes 8 h.physical_size) _ 16 8 p2 refl (c.copy_from_slice-3.ensures.after ∙ c.to_le_bytes-3.ensures ∙ le_whole 8 h.physical_size) in
    let p4 = put_known old physical_size _ (time_bytes h.create_time) _ 24 16 p3 refl (c.copy_from_slice-4.ensures.after ∙ c.from.ensures.0) in
    let p5 = put_known old created _ (time_bytes h.last_access_time) _ 40 16 p4 refl (c.copy_from_slice-5.ensures.after ∙ c.from-2.ensures.0) in
    let p6 = put_known old accessed _ (time_bytes h.modification_time) _ 56 16 p5 refl (c.copy_from_slice-6.ensures.after ∙ c.from-3.ensures.0) in
    let p7 = put_known old modified _ (le_bytes 8 h.attribute.0) _ 72 8 p6 refl (c.copy_from_slice-7.ensures.after ∙ c.to_le_bytes-4.ensures ∙ le_whole 8 h.attribute.0) in
    p7 ∙ sym (cond-false _ _ _ (le-ltb (length old) 80 c.if-out-lt80.false))

pub returns-clause-back : goal.returns-clause-back
returns-clause-back c =
    file_info_back c.args.self.now (record {
      size = omega arith;
      file_size = omega arith;
      physical_size = omega arith;
      create_time = ap time_of (sym c.from.ensures.0) ∙ c.from.ensures.1;
      last_access_time = ap time_of (sym c.from-2.ensures.0) ∙ c.from-2.ensures.1;
      modification_time = ap time_of (sym c.from-3.ensures.0) ∙ c.from-3.ensures.1;
      attribute = omega arith;
    })
