-- Headers and their bytes: each gives the other back.
use Rattle.std.specs.Prelude.{◌≡◌, ℕ, zero, suc, ◌+◌, ◌*◌, ◌%◌, ◌^◌, ◌<◌, ◌≤◌, Bool, true, false, cond, not, List, [], ◌∷◌, ◌++◌, length, take, drop, replicate, ◌==◌, refl}
use Rattle.std.proofs.Math.Path.{sym, ap}
use Rattle.std.proofs.Common.{◌∙◌, arith, take-add}
use mir.Val.{bool_byte}
use Rattle.std.proofs.lemmas.List.{length-take, length-drop, drop-drop}
use Rattle.uefi_types.specs.LittleEndian.{le_bytes, field, AreBytes}
use Rattle.uefi_time.specs.Times.{time_of, time_bytes}
use Rattle.uefi_types.proofs.Endian.{le_value_bytes, le_bytes_value, bytes_take, bytes_drop}
use Rattle.uefi_time.proofs.TimeBytes.{bytes_of_time}
use Rattle.uefi_info.specs.Infos.{time_at, file_info_of, file_info_header, file_system_info_of, file_system_info_header, CleanVolume}
use Rattle.uefi_info.specs.declared.file_info.FileInfo.{FileInfo}
use Rattle.uefi_info.specs.declared.file_system_info.FileSystemInfo.{FileSystemInfo}

module _ (bs : List ℕ) (typed : AreBytes bs) where
  part_long : (at k : ℕ) → at + k ≤ length bs → length (take k (drop at bs)) ≡ k
  part_long at k l = simp (length-take, length-drop) (omega arith)

  part_bytes : (at k : ℕ) → AreBytes (take k (drop at bs))
  part_bytes at k = bytes_take k (drop at bs) (bytes_drop at bs typed)

  -- the bytes of a field
  pub field_bytes : (at k : ℕ) → at + k ≤ length bs → le_bytes k (field at k bs) ≡ take k (drop at bs)
  field_bytes at k l = ap (λ n. le_bytes n (field at k bs)) (sym (part_long at k l)) ∙ le_bytes_value (take k (drop at bs)) (part_bytes at k)

  -- the bytes of a time
  pub time_bytes_lem : (at : ℕ) → at + 16 ≤ length bs → time_bytes (time_at at bs) ≡ take 16 (drop at bs)
  time_bytes_lem at l = bytes_of_time (take 16 (drop at bs)) (part_long at 16 l) (part_bytes at 16)

  -- one part more
  join : {xs ys : List ℕ} (a k : ℕ) → xs ≡ take a bs → ys ≡ take k (drop a bs) → xs ++ ys ≡ take (a + k) bs
  join a k p q = (λ i. p i ++ q i) ∙ sym (take-add a k bs)

  pub file_info_bytes_lem : 80 ≤ length bs → file_info_header (file_info_of bs) ≡ take 80 bs
  unfolding file_info_of file_info_header
  file_info_bytes_lem l =
      join 72 8
      (join 56 16 (join 40 16 (join 24 16 (join 16 8 (join 8 8 (field_bytes 0 8 (omega arith)) (field_bytes 8 8 (omega arith))) (field_bytes 16 8 (omega arith))) (time_bytes_lem 24 (omega arith))) (time_bytes_lem 40 (omega arith))) (time_bytes_lem 56 (omega arith)))
      (field_bytes 72 8 (omega arith))

flag : (v : ℕ) → v < 2 → cond (not (v == 0)) 1 0 ≡ v % 256
flag zero l = refl
flag (suc zero) l = refl
flag (suc (suc v)) l = absurd (omega arith)

module _ (bs : List ℕ) (typed : AreBytes bs) where
  pub file_system_info_bytes_lem : 36 ≤ length bs → CleanVolume bs → file_system_info_header (file_system_info_of bs) ≡ take 36 bs
  unfolding file_system_info_of file_system_info_header
  file_system_info_bytes_lem l clean =
      let only : cond (not (field 8 1 bs == 0)) 1 0 ∷ [] ≡ take 1 (drop 8 bs) = ap (λ n. n ∷ []) (flag (field 8 1 bs) clean.0) ∙ field_bytes bs typed 8 1 (omega arith) in
      let byte : cond (not (field 8 1 bs == 0)) 1 0 ∷ replicate 7 0 ≡ take 8 (drop 8 bs) =
      (λ i. only i ++ (sym clean.1 ∙ ap (take 7) (sym (drop-drop 1 8 bs))) i) ∙ sym (take-add 1 7 (drop 8 bs)) in
      join bs typed 32 4
      (join bs typed 24 8 (join bs typed 16 8 (join bs typed 8 8 (field_bytes bs typed 0 8 (omega arith)) byte) (field_bytes bs typed 16 8 (omega arith))) (field_bytes bs typed 24 8 (omega arith)))
      (field_bytes bs typed 32 4 (omega arith))

pub file_system_info_length_lem : (h : FileSystemInfo) → length (file_system_info_header h) ≡ 36
unfolding file_system_info_header
file_system_info_length_lem h = refl

pub record FileSystemInfoFits (h : FileSystemInfo) : Type 0 where
  pub size : h.size < 256 ^ 8
  pub volume_size : h.volume_size < 256 ^ 8
  pub free_space : h.free_space < 256 ^ 8
  pub block_size : h.block_size < 256 ^ 4

told_flag : (b : Bool) → not (cond b 1 0 + 256 * 0 == 0) ≡ b
told_flag true = refl
told_flag false = refl

pub file_system_info_back : (h : FileSystemInfo) → FileSystemInfoFits h → (rest : List ℕ) → file_system_info_of (file_system_info_header h ++ rest) ≡ h
unfolding file_system_info_of file_system_info_header
file_system_info_back h f rest = λ i. record {
  size = le_value_bytes 8 h.size f.size i;
  read_only = told_flag h.read_only i;
  volume_size = le_value_bytes 8 h.volume_size f.volume_size i;
  free_space = le_value_bytes 8 h.free_space f.free_space i;
  block_size = le_value_bytes 4 h.block_size f.block_size i;
}

-- a flag in eight bytes
pub flag_bytes : (b : Bool) → le_bytes 8 (bool_byte b) ≡ cond b 1 0 ∷ replicate 7 0
flag_bytes true = refl
flag_bytes false = refl

pub file_info_length_lem : (h : FileInfo) → length (file_info_header h) ≡ 80
unfolding file_info_header time_bytes
file_info_length_lem h = refl

-- the fields of a header have room
pub record FileInfoFits (h : FileInfo) : Type 0 where
  pub size : h.size < 256 ^ 8
  pub file_size : h.file_size < 256 ^ 8
  pub physical_size : h.physical_size < 256 ^ 8
  pub create_time : time_of (time_bytes h.create_time) ≡ h.create_time
  pub last_access_time : time_of (time_bytes h.last_access_time) ≡ h.last_access_time
  pub modification_time : time_of (time_bytes h.modification_time) ≡ h.modification_time
  pub attribute : h.attribute.0 < 256 ^ 8

pub file_info_back : (h : FileInfo) → FileInfoFits h → (rest : List ℕ) → file_info_of (file_info_header h ++ rest) ≡ h
unfolding file_info_of file_info_header time_of time_bytes
file_info_back h f rest = λ i. record {
  size = le_value_bytes 8 h.size f.size i;
  file_size = le_value_bytes 8 h.file_size f.file_size i;
  physical_size = le_value_bytes 8 h.physical_size f.physical_size i;
  create_time = f.create_time i;
  last_access_time = f.last_access_time i;
  modification_time = f.modification_time i;
  attribute = record { 0 = le_value_bytes 8 h.attribute.0 f.attribute i };
}
