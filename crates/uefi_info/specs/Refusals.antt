-- The refusals of this crate as numbers with values, and its answers with them.
use Rattle.std.specs.Prelude.{ℕ, List, ◌++◌, codes, Some, None, Ok, Err, Option, Result}
use Rattle.std.specs.Fmt.{decimal}
use Rattle.uefi_types.specs.Refusal.{Refusal}
use Rattle.uefi_result.specs.StatusCodes.{bad_buffer_size, buffer_too_small}
use Rattle.uefi_info.specs.Parsed.{bad_unit, short_buffer}
use Rattle.uefi_info.specs.Records.{units_of}
use Rattle.uefi_info.specs.declared.info.FileInfoCreationError.{FileInfoCreationError}
use Rattle.uefi_info.specs.declared.info.FileInfoCreationError.TheVariants.{BadUnit, ShortBuffer}
use Rattle.uefi_info.specs.declared.info.FromUefiError.{FromUefiError}
use Rattle.uefi_info.specs.declared.info.FromUefiError.TheVariants.{BadBufferSize, BufferTooSmall}
use Rattle.uefi_info.specs.declared.info.NamedInfo.{NamedInfo}
use Rattle.uefi_info.specs.declared.name.ShortBuffer.{ShortBuffer as ShortPlaces}

abbrev pub refusal : FileInfoCreationError → Refusal
refusal (BadUnit place) = bad_unit place
refusal (ShortBuffer needed) = short_buffer needed

-- as text
abbrev pub refusal_text : FileInfoCreationError → List ℕ
refusal_text (BadUnit place) = codes "the name's unit at " ++ decimal place ++ codes " may stand in no text"
refusal_text (ShortBuffer needed) = codes "provided buffer was too small. need at least " ++ decimal needed ++ codes " bytes"

abbrev pub refused : Result ℕ FileInfoCreationError → Result ℕ Refusal
refused (Ok n) = Ok n
refused (Err e) = Err (refusal e)

-- why no record was read, by status and the length needed
abbrev pub read_refusal : FromUefiError → ℕ × Option ℕ
read_refusal BadBufferSize = (bad_buffer_size, None)
read_refusal (BufferTooSmall needed) = (buffer_too_small, Some needed)

-- as text
abbrev pub read_refusal_text : FromUefiError → List ℕ
read_refusal_text BadBufferSize = codes "no whole name among the written bytes"
read_refusal_text (BufferTooSmall needed) = decimal needed ++ codes " bytes needed"

-- a record that was read: its header and the units of its name
abbrev pub told_info : {H : Type 0} → Result (NamedInfo H) FromUefiError → Result (H × List ℕ) (ℕ × Option ℕ)
told_info (Ok v) = Ok (v.header, units_of v.name.bytes.now)
told_info (Err e) = Err (read_refusal e)

-- a buffer that has too few places
abbrev pub short_refused : {V : Type 0} → Result V ShortPlaces → Result V Refusal
short_refused (Ok v) = Ok v
short_refused (Err e) = Err (short_buffer e.needed)

-- as text
abbrev pub short_text : ShortPlaces → List ℕ
short_text e = codes "the buffer is too short, " ++ decimal e.needed ++ codes " are needed"
