-- What reading and building a record answer.
use Rattle.std.specs.Prelude.{◌≡◌, ℕ, ◌*◌, ◌<◌, ◌≤◌, cond, List, [], ◌∷◌, ◌++◌, length, take, drop, Some, None, Ok, Err, Option, Result, nat_lt}
use Rattle.uefi_types.specs.Refusal.{Refusal}
use Rattle.uefi_result.specs.StatusCodes.{bad_buffer_size, buffer_too_small}
use Rattle.uefi_types.specs.Units.{first_bad}
use Rattle.uefi_info.specs.Records.{units_of, name_length, record_size, record_length, record_bytes, AreUnits, NameIn, ZeroPadded}

-- refusals by their numbers
abbrev pub bad_unit : ℕ → Refusal
bad_unit place = record { number = 21; values = place ∷ [] }

abbrev pub short_buffer : ℕ → Refusal
short_buffer needed = record { number = 15; values = needed ∷ [] }

module _ {H : Type 0} (header_of : List ℕ → H) (offset align : ℕ) (bytes : List ℕ) where
  -- a record whose name has n units, or whose name has no end
  abbrev pub accepted : Option ℕ → Result (H × List ℕ) (ℕ × Option ℕ)
  accepted None = Err (bad_buffer_size, None)
  accepted (Some n) =
      cond (nat_lt (length bytes) (record_length offset align n)) (Err (buffer_too_small, Some (record_length offset align n)))
      (Ok (header_of bytes, units_of (take (2 * n) (drop offset bytes))))

  -- the record in a buffer of which the first bytes were written: its name ends among those, and its padding in the buffer
  abbrev pub from_uefi : ℕ → Result (H × List ℕ) (ℕ × Option ℕ)
  from_uefi written = accepted (name_length (drop offset (take written bytes)))

  -- the name A, with just its record's bytes written: a buffer that has no room for the padding is refused with the length, and one that has is read;
  -- of a file's record 84 bytes are written so, 84 bytes of buffer are refused with 88, and 88 are read
  abbrev pub OneUnitName : ℕ → Result (H × List ℕ) (ℕ × Option ℕ) → Type 0
  OneUnitName written r =
      written ≡ record_size offset 1 → take 4 (drop offset bytes) ≡ 0x41 ∷ 0 ∷ 0 ∷ 0 ∷ [] →
      (length bytes < record_length offset align 1 → r ≡ Err (buffer_too_small, Some (record_length offset align 1))) ×
      (record_length offset align 1 ≤ length bytes → r ≡ Ok (header_of bytes, 0x41 ∷ []))

-- what that means: a name that is told ends at the first NUL among the written bytes, and its record has room in the buffer;
-- else there is no NUL among them, or too little room
module _ (offset align : ℕ) (bytes : List ℕ) (written : ℕ) where
  abbrev pub Refuses : ℕ → Option ℕ → Type 0
  Refuses status None = (status ≡ bad_buffer_size) × ((us : List ℕ) → AreUnits us → NameIn (drop offset (take written bytes)) us → ⊥)
  Refuses status (Some needed) =
      (status ≡ buffer_too_small) × (length bytes < needed) ×
      ((us : List ℕ) × NameIn (drop offset (take written bytes)) us × (needed ≡ record_length offset align (length us)))

module _ {H : Type 0} (offset align : ℕ) (bytes : List ℕ) (written : ℕ) where
  abbrev pub Reads : Result (H × List ℕ) (ℕ × Option ℕ) → Type 0
  Reads (Ok v) = NameIn (drop offset (take written bytes)) v.1 × (record_length offset align (length v.1) ≤ length bytes)
  Reads (Err e) = Refuses offset align bytes written e.0 e.1

-- what is built again of a record that was read is its own bytes, where its header and its padding are as building writes them
module _ {H E : Type 0} (header_bytes : H → List ℕ) (clean : List ℕ → Type 0) (offset align : ℕ) (bytes : List ℕ) where
  abbrev pub Rebuilds : Result (H × List ℕ) E → Type 0
  Rebuilds (Ok v) =
      clean bytes → ZeroPadded offset align (length v.1) bytes →
      record_bytes align (header_bytes v.0) v.1 ≡ take (record_length offset align (length v.1)) bytes
  Rebuilds (Err e) = Unit {0}

-- what building answers: the first unit that may stand in no text is refused, then a short buffer
abbrev pub fitting : ℕ → ℕ → Option ℕ → Result ℕ Refusal
fitting length' needed (Some place) = Err (bad_unit place)
fitting length' needed None = cond (nat_lt length' needed) (Err (short_buffer needed)) (Ok needed)

-- what a buffer holds after it: the record in front, unless it was refused
abbrev pub written : List ℕ → Result ℕ Refusal → List ℕ → List ℕ
written bytes (Ok n) old = bytes ++ drop n old
written bytes (Err e) old = old

module _ (offset align : ℕ) (name : List ℕ) (old : List ℕ) where
  abbrev pub building : Result ℕ Refusal
  building = fitting (length old) (record_length offset align (length name)) (first_bad name)

  abbrev pub built : List ℕ → List ℕ
  built header = written (record_bytes align header name) building old

-- a record that was built is read with its header and its name, however much of the buffer is told to be written
module _ {H : Type 0} (header_of : List ℕ → H) (offset align : ℕ) (h : H) (name : List ℕ) (bytes : List ℕ) where
  abbrev pub ReadsBack : Result ℕ Refusal → Type 0
  ReadsBack (Ok n) = (w : ℕ) → record_size offset (length name) ≤ w → from_uefi header_of offset align bytes w ≡ Ok (h, name)
  ReadsBack (Err e) = Unit {0}

-- what writing a header of some length to the front of a buffer answers
abbrev pub heading : ℕ → List ℕ → Result (Unit {0}) Refusal
heading offset old = cond (nat_lt (length old) offset) (Err (short_buffer offset)) (Ok tt)

-- what copying units to the front of a buffer answers
abbrev pub copying : List ℕ → List ℕ → Result ℕ Refusal
copying units old = cond (nat_lt (length old) (length units)) (Err (short_buffer (length units))) (Ok (length units))
