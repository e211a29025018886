-- A record fetched in two calls: the first asks for its length with an empty buffer.
use Rattle.std.specs.Prelude.{ℕ, Bool, true, false, cond, ◌&&◌, List, [], ◌++◌, length, take, drop, Some, None, Ok, Err, Option, Result, ◌==◌, nat_le, nat_lt}
use Rattle.uefi_types.specs.Aligned.{round_up}
use Rattle.uefi_result.specs.StatusCodes.{unsupported, buffer_too_small, out_of_resources}
use Rattle.uefi_info.specs.declared.file_info.FileInfo.{FileInfo}
use Rattle.volume.specs.Scripts.{Script, done, ◌then◌}
use Rattle.uefi_file.specs.Infos.{Fetched, some_in, reading_entry}

-- the length that a fetch with an empty buffer tells; what takes an empty buffer is no record
abbrev pub size_told : ℕ → Option ℕ → Result ℕ ℕ
size_told s None = Err s
size_told s (Some n) = cond (s == buffer_too_small && nat_lt 0 n) (Ok n) (Err s)

abbrev pub size_in : Result FileInfo (ℕ × Option ℕ) → Result ℕ ℕ
size_in (Ok h) = Err unsupported
size_in (Err e) = size_told e.0 e.1

-- what a fetch in two calls tells: a value or a status, and the buffer after it
abbrev pub Boxed : Type 0 → Type 0
Boxed X = Result X ℕ × List ℕ

abbrev pub status_in : Result FileInfo (ℕ × Option ℕ) → Result FileInfo ℕ
status_in (Ok h) = Ok h
status_in (Err e) = Err e.0

abbrev pub placed : List ℕ → Fetched FileInfo → Script (Boxed FileInfo)
placed old x = done (status_in x.0, x.1 ++ drop (length x.1) old)

-- a length with its padding, if a buffer has so many bytes
abbrev pub padded_in : ℕ → ℕ → Option ℕ
padded_in n space = cond (nat_le (round_up 8 n) space) (Some (round_up 8 n)) None

abbrev pub fetched_into : (List ℕ → Script (Fetched FileInfo)) → List ℕ → Option ℕ → Script (Boxed FileInfo)
fetched_into fetch old None = done (Err out_of_resources, old)
fetched_into fetch old (Some n) = fetch (take n old) then placed old

-- the second fetch goes into a part of the buffer that has the length told, with its padding; without one there is no memory
abbrev pub boxed : (List ℕ → Script (Fetched FileInfo)) → List ℕ → Result ℕ ℕ → Script (Boxed FileInfo)
boxed fetch old (Err s) = done (Err s, old)
boxed fetch old (Ok n) = fetched_into fetch old (padded_in n (length old))

abbrev pub sized : (List ℕ → Script (Fetched FileInfo)) → List ℕ → Fetched FileInfo → Script (Boxed FileInfo)
sized fetch old x = boxed fetch old (size_in x.0)

abbrev pub boxing : (List ℕ → Script (Fetched FileInfo)) → List ℕ → Script (Boxed FileInfo)
boxing fetch old = fetch [] then sized fetch old

-- an entry that has to be there
abbrev pub expected_in : Result (Option FileInfo) (ℕ × Option ℕ) → Result FileInfo (ℕ × Option ℕ)
expected_in (Ok None) = Err (unsupported, None)
expected_in (Ok (Some h)) = Ok h
expected_in (Err e) = Err e

abbrev pub expected : Fetched (Option FileInfo) → Script (Fetched FileInfo)
expected x = done (expected_in x.0, x.1)

abbrev pub fetching_entry : ℕ → List ℕ → Script (Fetched FileInfo)
fetching_entry k old = reading_entry k old then expected

-- an entry in two calls, after one that looks whether there is one
abbrev pub entry_boxed : Boxed FileInfo → Script (Boxed (Option FileInfo))
entry_boxed x = done (some_in x.0, x.1)

abbrev pub end_in : Result (Option FileInfo) (ℕ × Option ℕ) → Bool
end_in (Ok None) = true
end_in (Ok (Some h)) = false
end_in (Err e) = false

abbrev pub looked : ℕ → List ℕ → Fetched (Option FileInfo) → Script (Boxed (Option FileInfo))
looked k old x = cond (end_in x.0) (done (Ok None, old)) (boxing (fetching_entry k) old then entry_boxed)

abbrev pub boxing_entry : ℕ → List ℕ → Script (Boxed (Option FileInfo))
boxing_entry k old = reading_entry k [] then looked k old
