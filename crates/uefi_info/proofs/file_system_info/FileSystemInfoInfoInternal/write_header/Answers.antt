use Rattle.std.proofs.Common.{ℕ, cond, List, [], ◌∷◌, ◌++◌, length, replicate, sym, refl, ap, ◌∙◌, arith}
use Rattle.std.proofs.lemmas.Bool.{cond-false, le-ltb}
use Rattle.uefi_types.specs.LittleEndian.{le_bytes}
use Rattle.uefi_info.specs.Infos.{file_system_info_header}
use Rattle.uefi_info.specs.Layouts.{file_system_info_back, flag_bytes}
use Rattle.uefi_info.proofs.Pasting.{put_known, le_whole}
use Rattle.uefi_info.proofs.file_system_info.FileSystemInfoInfoInternal.write_header.Goals as goal

pub returns-clause-after : goal.returns-clause-after
unfolding file_system_info_header
returns-clause-after c =
    let h = c.args.self.now in
    let old = c.args.out.now in
    let flag : List ℕ = cond h.read_only 1 0 ∷ replicate 7 0 in
    let size = le_bytes 8 h.size in
    let read_only = size ++ flag in
    let volume_size = read_only ++ le_bytes 8 h.volume_size in
    let free_space = volume_size ++ le_bytes 8 h.free_space in
    let p1 = put_known old [] _ size old 0 8 refl refl (c.copy_from_slice.ensures.after ∙ c.to_le_bytes.ensures ∙ le_whole 8 h.size) in
    let p2 = put_known old size _ flag _ 8 8 p1 refl (c.copy_from_slice-2.ensures.after ∙ c.to_le_bytes-2.ensures ∙ le_whole 8 c.from.result ∙ ap (le_bytes 8) c.from.ensures ∙ flag_bytes h.read_only) in
    let p3 = put_known old read_only _ (le_bytes 8 h.volume_size) _ 16 8 p2 refl (c.copy_from_slice-3.ensures.after ∙ c.to_le_bytes-3.ensures ∙ le_whole 8 h.volume_size) in
    let p4 = put_known old volume_size _ (le_bytes 8 h.free_space) _ 24 8 p3 refl (c.copy_from_slice-4.ensures.after ∙ c.to_le_bytes-4.ensures ∙ le_whole 8 h.free_space) in
    let p5 = put_known old free_space _ (le_bytes 4 h.block_size) _ 32 4 p4 refl (c.copy_from_slice-5.ensures.after ∙ c.to_le_bytes-5.ensures ∙ le_whole 4 h.block_size) in
    p5 ∙ sym (cond-false _ _ _ (le-ltb (length old) 36 c.if-out-lt36.false))

pub returns-clause-back : goal.returns-clause-back
returns-clause-back c = file_system_info_back c.args.self.now (record { size = omega arith; volume_size = omega arith; free_space = omega arith; block_size = omega arith })
