-- The three records by the UEFI Specification's tables: EFI_FILE_INFO, EFI_FILE_SYSTEM_INFO, EFI_FILE_SYSTEM_VOLUME_LABEL.
use Rattle.std.specs.Prelude.{◌≡◌, ℕ, ◌<◌, Bool, cond, not, List, [], ◌∷◌, ◌++◌, length, take, drop, replicate, Some, Ok, Err, Option, Result, ◌==◌}
use Rattle.uefi_types.specs.LittleEndian.{le_bytes, field}
use Rattle.uefi_result.specs.StatusCodes.{buffer_too_small}
use Rattle.uefi_time.specs.Times.{time_of, time_bytes}
use Rattle.uefi_time.specs.declared.time.Time.{Time}
use Rattle.uefi_info.specs.Records.{record_size, record_length, record_bytes}
use Rattle.uefi_info.specs.declared.file_info.FileInfo.{FileInfo}
use Rattle.uefi_info.specs.declared.file_system_info.FileSystemInfo.{FileSystemInfo}
use Rattle.uefi_info.specs.declared.volume_label.FileSystemVolumeLabel.{FileSystemVolumeLabel}

-- the time at an offset
abbrev pub time_at : ℕ → List ℕ → Time
time_at at bs = time_of (take 16 (drop at bs))

-- EFI_FILE_INFO: Size, FileSize, PhysicalSize, CreateTime, LastAccessTime, ModificationTime, Attribute, FileName
unfoldable pub file_info_of : List ℕ → FileInfo
file_info_of bs = record {
  size = field 0 8 bs;
  file_size = field 8 8 bs;
  physical_size = field 16 8 bs;
  create_time = time_at 24 bs;
  last_access_time = time_at 40 bs;
  modification_time = time_at 56 bs;
  attribute = record { 0 = field 72 8 bs };
}

unfoldable pub file_info_header : FileInfo → List ℕ
file_info_header h =
    le_bytes 8 h.size ++ le_bytes 8 h.file_size ++ le_bytes 8 h.physical_size ++ time_bytes h.create_time ++
    time_bytes h.last_access_time ++ time_bytes h.modification_time ++ le_bytes 8 h.attribute.0

-- EFI_FILE_SYSTEM_INFO: Size, ReadOnly, VolumeSize, FreeSpace, BlockSize, VolumeLabel
unfoldable pub file_system_info_of : List ℕ → FileSystemInfo
file_system_info_of bs = record {
  size = field 0 8 bs;
  read_only = not (field 8 1 bs == 0);
  volume_size = field 16 8 bs;
  free_space = field 24 8 bs;
  block_size = field 32 4 bs;
}

unfoldable pub file_system_info_header : FileSystemInfo → List ℕ
file_system_info_header h =
    le_bytes 8 h.size ++ (cond h.read_only 1 0 ∷ replicate 7 0) ++ le_bytes 8 h.volume_size ++
    le_bytes 8 h.free_space ++ le_bytes 4 h.block_size

-- EFI_FILE_SYSTEM_VOLUME_LABEL: VolumeLabel
abbrev pub volume_label_of : List ℕ → FileSystemVolumeLabel
volume_label_of bs = record {}

abbrev pub volume_label_header : FileSystemVolumeLabel → List ℕ
volume_label_header h = []

-- the header of a file's record: its Size counts the header and the name with its NUL, and no padding
abbrev pub file_info_for : ℕ → ℕ → Time → Time → Time → ℕ → List ℕ → FileInfo
file_info_for file_size physical_size created accessed modified attributes name = record {
  size = record_size 80 (length name);
  file_size = file_size;
  physical_size = physical_size;
  create_time = created;
  last_access_time = accessed;
  modification_time = modified;
  attribute = record { 0 = attributes };
}

-- the bytes of a file's record, and how many they are
unfoldable pub file_info_bytes : ℕ → ℕ → Time → Time → Time → ℕ → List ℕ → List ℕ
file_info_bytes file_size physical_size created accessed modified attributes name =
    record_bytes 8 (file_info_header (file_info_for file_size physical_size created accessed modified attributes name)) name

abbrev pub file_info_length : List ℕ → ℕ
file_info_length name = record_length 80 8 (length name)

-- the same of a volume's record and of its label's
abbrev pub file_system_info_for : Bool → ℕ → ℕ → ℕ → List ℕ → FileSystemInfo
file_system_info_for read_only volume_size free_space block_size name = record {
  size = record_size 36 (length name);
  read_only = read_only;
  volume_size = volume_size;
  free_space = free_space;
  block_size = block_size;
}

unfoldable pub file_system_info_bytes : Bool → ℕ → ℕ → ℕ → List ℕ → List ℕ
file_system_info_bytes read_only volume_size free_space block_size name =
    record_bytes 8 (file_system_info_header (file_system_info_for read_only volume_size free_space block_size name)) name

abbrev pub volume_label_bytes : List ℕ → List ℕ
volume_label_bytes name = record_bytes 2 [] name

-- a volume's header whose flag is 0 or 1 and whose unused bytes are zero
abbrev pub CleanVolume : List ℕ → Type 0
CleanVolume bs = (field 8 1 bs < 2) × (take 7 (drop 9 bs) ≡ replicate 7 0)

-- the name A in a file's record, with 84 bytes written: the padding has no room in 84 bytes, and all has in 88
abbrev pub FileA : List ℕ → ℕ → Result (FileInfo × List ℕ) (ℕ × Option ℕ) → Type 0
FileA bytes written r =
    written ≡ 84 → take 4 (drop 80 bytes) ≡ 0x41 ∷ 0 ∷ 0 ∷ 0 ∷ [] →
    (length bytes ≡ 84 → r ≡ Err (buffer_too_small, Some 88)) × (length bytes ≡ 88 → r ≡ Ok (file_info_of bytes, 0x41 ∷ []))
