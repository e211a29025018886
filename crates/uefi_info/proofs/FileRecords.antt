-- A file's record: how long it is, what is read of it, and the file A in numbers.
use Rattle.std.proofs.Common.{◌≡◌, ℕ, ◌≤◌, true, List, [], ◌∷◌, ◌++◌, length, take, drop, Some, Ok, Err, Option, Result, arith}
use Rattle.uefi_types.specs.Units.{is_text}
use Rattle.uefi_time.specs.declared.time.Time.{Time}
use Rattle.uefi_info.specs.Infos.{file_info_of, file_info_header, file_info_for, file_info_bytes, file_info_length, FileA}
use Rattle.uefi_info.specs.Parsed.{from_uefi, OneUnitName}
use Rattle.uefi_info.specs.Records.{record_size, AreUnits}
use Rattle.uefi_info.specs.declared.file_info.FileInfo.{FileInfo}
use Rattle.uefi_info.specs.Layouts.{FileInfoFits, file_info_length_lem, file_info_back}
use Rattle.uefi_info.proofs.RecordTrips.{record_length_lem, read_built, text_no_nul}

module _ (file_size physical_size : ℕ) (created accessed modified : Time) (attributes : ℕ) (name : List ℕ) where
  pub file_record_length : length (file_info_bytes file_size physical_size created accessed modified attributes name) ≡ file_info_length name
  unfolding file_info_bytes
  file_record_length =
      let h = file_info_for file_size physical_size created accessed modified attributes name in
      record_length_lem (file_info_header h) name 80 8 (file_info_length_lem h)

  -- whatever stands after the record, and however much of it is told to be written
  pub file_record_read : (rest : List ℕ) (w : ℕ) → FileInfoFits (file_info_for file_size physical_size created accessed modified attributes name) → AreUnits name → is_text name ≡ true →
      record_size 80 (length name) ≤ w →
      from_uefi file_info_of 80 8 (file_info_bytes file_size physical_size created accessed modified attributes name ++ rest) w ≡ Ok (file_info_for file_size physical_size created accessed modified attributes name, name)
  unfolding file_info_bytes
  file_record_read rest w fits units text l =
      let h = file_info_for file_size physical_size created accessed modified attributes name in
      read_built file_info_of h (file_info_header h) name 80 8 (file_info_length_lem h) (file_info_back h fits) units (text_no_nul name text) rest w l

-- the file A in numbers: of 84 bytes written, a buffer of 84 is refused with 88, and one of 88 is read
pub file_a : (bytes : List ℕ) (written : ℕ) (r : Result (FileInfo × List ℕ) (ℕ × Option ℕ)) → OneUnitName file_info_of 80 8 bytes written r → FileA bytes written r
file_a bytes written r h w name = let e = h w name in (λ l. e.0 (omega arith), λ l. e.1 (omega arith))
