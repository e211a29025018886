-- EFI_TIME: a date and a time in 16 bytes, and which are valid.
use Rattle.std.specs.Prelude.{◌≡◌, ℕ, suc, ◌<◌, ◌≤◌, Bool, not, ◌&&◌, ◌||◌, ◌⊎◌, List, [], ◌∷◌, ◌++◌, ℤ, pos, negsuc, ◌≤ℤ◌, ◌==◌, nat_le}
use Rattle.std.specs.Int.{w16}
use Rattle.std.proofs.Common.{to_z, of_z}
use Rattle.uefi_types.specs.LittleEndian.{le_bytes, field}
use Rattle.uefi_time.specs.declared.time.Time.{Time}
use Rattle.uefi_time.specs.declared.time.TimeError.{TimeError}

-- the time that 16 bytes hold
unfoldable pub time_of : List ℕ → Time
time_of bs = record {
  year = field 0 2 bs;
  month = field 2 1 bs;
  day = field 3 1 bs;
  hour = field 4 1 bs;
  minute = field 5 1 bs;
  second = field 6 1 bs;
  pad1 = field 7 1 bs;
  nanosecond = field 8 4 bs;
  time_zone = to_z w16 (field 12 2 bs);
  daylight = field 14 1 bs;
  pad2 = field 15 1 bs;
}

-- the 16 bytes of a time
unfoldable pub time_bytes : Time → List ℕ
time_bytes t =
    le_bytes 2 t.year ++ (t.month ∷ t.day ∷ t.hour ∷ t.minute ∷ t.second ∷ t.pad1 ∷ []) ++
    le_bytes 4 t.nanosecond ++ le_bytes 2 (of_z w16 t.time_zone) ++ (t.daylight ∷ t.pad2 ∷ [])

-- whether a number lies outside a range
abbrev pub outside : ℕ → ℕ → ℕ → Bool
outside low high n = not (nat_le low n && nat_le n high)

-- the minutes between local time and UTC: -1440 to 1440, or 2047 where they are not told
abbrev pub is_zone : ℤ → Bool
is_zone (pos n) = nat_le n 1440 || n == 2047
is_zone (negsuc n) = nat_le (suc n) 1440

-- each field of a time that is outside of the specification's range
abbrev pub time_errors : Time → TimeError
time_errors t = record {
  year = outside 1900 9999 t.year;
  month = outside 1 12 t.month;
  day = outside 1 31 t.day;
  hour = outside 0 23 t.hour;
  minute = outside 0 59 t.minute;
  second = outside 0 59 t.second;
  nanosecond = outside 0 999999999 t.nanosecond;
  timezone = not (is_zone t.time_zone);
  daylight = outside 0 3 t.daylight;
}

abbrev pub any_error : TimeError → Bool
any_error e = e.year || e.month || e.day || e.hour || e.minute || e.second || e.nanosecond || e.timezone || e.daylight

-- what a valid time is: each field lies in its range, and daylight has no bit but 01h and 02h
pub record ValidTime (t : Time) : Type 0 where
  pub year : (1900 ≤ t.year) × (t.year ≤ 9999)
  pub month : (1 ≤ t.month) × (t.month ≤ 12)
  pub day : (1 ≤ t.day) × (t.day ≤ 31)
  pub hour : t.hour ≤ 23
  pub minute : t.minute ≤ 59
  pub second : t.second ≤ 59
  pub nanosecond : t.nanosecond ≤ 999999999
  pub timezone : ((negsuc 1439 ≤ℤ t.time_zone) × (t.time_zone ≤ℤ pos 1440)) ⊎ (t.time_zone ≡ pos 2047)
  pub daylight : t.daylight < 4
