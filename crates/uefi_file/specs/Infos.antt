-- Records of files and entries of directories, fetched into a buffer, as scripts.
use Rattle.std.specs.Prelude.{ℕ, ◌^◌, cond, ◌&&◌, List, length, Some, None, Ok, Err, Option, Result, ◌==◌, nat_lt}
use Rattle.volume.specs.Answers.{filled}
use Rattle.uefi_types.specs.Aligned.{round_up}
use Rattle.uefi_result.specs.StatusCodes.{buffer_too_small}
use Rattle.uefi_info.specs.Infos.{file_info_of}
use Rattle.uefi_info.specs.Parsed.{from_uefi}
use Rattle.uefi_info.specs.declared.file_info.FileInfo.{FileInfo}
use Rattle.volume.specs.Calls.{Answer, accepted, refused, get_info, read}
use Rattle.volume.specs.Scripts.{Script, done, ask}

-- what a fetch tells: a value, or a status, perhaps with the length that is needed; and the buffer after it
abbrev pub Fetched : Type 0 → Type 0
Fetched X = Result X (ℕ × Option ℕ) × List ℕ

-- the header of a record that was read
abbrev pub header_in : Result (FileInfo × List ℕ) (ℕ × Option ℕ) → Result FileInfo (ℕ × Option ℕ)
header_in (Ok v) = Ok v.0
header_in (Err e) = Err e

-- the record of which the first n bytes of a buffer were written
abbrev pub info_at : List ℕ → ℕ → Result FileInfo (ℕ × Option ℕ)
info_at buffer n = header_in (from_uefi file_info_of 80 8 buffer n)

-- the length that a refusal asks for, with the padding of a record
abbrev pub needed : ℕ → ℕ → Option ℕ
needed s l = cond (s == buffer_too_small && nat_lt (round_up 8 l) (2 ^ 64)) (Some (round_up 8 l)) None

-- what an answer tells of the record that it delivered, by the buffer after it
abbrev pub record_of : {X : Type 0} → (List ℕ → ℕ → Result X (ℕ × Option ℕ)) → Answer → List ℕ → Result X (ℕ × Option ℕ)
record_of record_at (refused s l) after = Err (s, needed s l)
record_of record_at (accepted n bs) after = record_at after n

abbrev pub record_in : {X : Type 0} → (List ℕ → ℕ → Result X (ℕ × Option ℕ)) → List ℕ → Answer → Fetched X
record_in record_at old a = (record_of record_at a (filled old a), filled old a)

abbrev pub fetching_info : ℕ → List ℕ → Script (Fetched FileInfo)
fetching_info k old = ask (get_info k (length old)) (λ a. done (record_in info_at old a))

abbrev pub some_in : {X E : Type 0} → Result X E → Result (Option X) E
some_in (Ok x) = Ok (Some x)
some_in (Err e) = Err e

-- an entry of a directory; no bytes are its end
abbrev pub entry_at : List ℕ → ℕ → Result (Option FileInfo) (ℕ × Option ℕ)
entry_at buffer n = cond (n == 0) (Ok None) (some_in (info_at buffer n))

abbrev pub reading_entry : ℕ → List ℕ → Script (Fetched (Option FileInfo))
reading_entry k old = ask (read k (length old)) (λ a. done (record_in entry_at old a))
