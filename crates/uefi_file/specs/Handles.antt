-- What the calls on a handle are, as scripts, and what they answer.
use Rattle.std.specs.Prelude.{ℕ, Bool, true, false, cond, not, List, Some, None, Ok, Err, Option, Result, ◌==◌}
use Rattle.uefi_result.specs.StatusCodes.{unsupported}
use Rattle.uefi_result.specs.declared.error.Error.{Error}
use Rattle.uefi_types.specs.declared.modes.FileMode.{FileMode}
use Rattle.volume.specs.Tree.{Route}
use Rattle.volume.specs.Calls.{Answer, accepted, refused, open_volume, open_from, close, delete, get_position, write, flush}
use Rattle.volume.specs.Scripts.{Script, done, ask, ◌then◌}
use Rattle.uefi_file.specs.declared.handle.FileHandle.{FileHandle}
use Rattle.uefi_file.specs.declared.handle.FileType.{FileType}
use Rattle.uefi_file.specs.declared.handle.FileType.TheVariants.{Regular, Dir}

-- an answer by its status, whatever data an error has, with its value as it is told
abbrev pub told_by : {X Y D : Type 0} → (X → Y) → Result X (Error D) → Result Y ℕ
told_by f (Ok x) = Ok (f x)
told_by f (Err e) = Err e.status.0

abbrev pub by_status : {X D : Type 0} → Result X (Error D) → Result X ℕ
by_status r = told_by (λ x. x) r

-- the number of the handle that was opened
abbrev pub by_number : Result FileHandle (Error (Unit {0})) → Result ℕ ℕ
by_number r = told_by (λ h. h.number) r

-- a number that was answered, or the status
abbrev pub number_in : Answer → Result ℕ ℕ
number_in (accepted n bs) = Ok n
number_in (refused s l) = Err s

abbrev pub done_in : Answer → Result (Unit {0}) ℕ
done_in (accepted n bs) = Ok tt
done_in (refused s l) = Err s

abbrev pub opening_volume : Script (Result ℕ ℕ)
opening_volume = ask open_volume (λ a. done (number_in a))

abbrev pub opening : ℕ → Route → FileMode → ℕ → Script (Result ℕ ℕ)
opening k p m t = ask (open_from k p m t) (λ a. done (number_in a))

abbrev pub closing : ℕ → Script (Unit {0})
closing k = ask (close k) (λ a. done tt)

abbrev pub deleting : ℕ → Script (Result (Unit {0}) ℕ)
deleting k = ask (delete k) (λ a. done (done_in a))

abbrev pub flushing : ℕ → Script (Result (Unit {0}) ℕ)
flushing k = ask (flush k) (λ a. done (done_in a))

abbrev pub positioning : ℕ → Script (Result ℕ ℕ)
positioning k = ask (get_position k) (λ a. done (number_in a))

-- a file has a position and a directory has none; any other status is an error
abbrev pub regular_in : Answer → Result Bool ℕ
regular_in (accepted n bs) = Ok true
regular_in (refused s l) = cond (s == unsupported) (Ok false) (Err s)

abbrev pub asking_regular : ℕ → Script (Result Bool ℕ)
asking_regular k = ask (get_position k) (λ a. done (regular_in a))

-- and the other way round, whatever is asked
abbrev pub directory_of : Result Bool ℕ → Result Bool ℕ
directory_of (Ok b) = Ok (not b)
directory_of (Err s) = Err s

abbrev pub asking_directory : Script (Result Bool ℕ) → Script (Result Bool ℕ)
asking_directory s = s then (λ r. done (directory_of r))

-- a status with how many bytes were written
abbrev pub written_in : Answer → Result (Unit {0}) (ℕ × ℕ)
written_in (accepted n bs) = Ok tt
written_in (refused s l) = Err (s, l)

abbrev pub writing : ℕ → List ℕ → Script (Result (Unit {0}) (ℕ × ℕ))
writing k bs = ask (write k bs) (λ a. done (written_in a))

-- what a handle turned out to be, with its number
abbrev pub type_of : FileType → Bool × ℕ
type_of (Regular f) = (true, f.handle.number)
type_of (Dir d) = (false, d.handle.number)

abbrev pub by_type : Result FileType (Error (Unit {0})) → Result (Bool × ℕ) ℕ
by_type r = told_by type_of r

-- a handle is closed, and something is told
abbrev pub closing_with : {X : Type 0} → ℕ → X → Script X
closing_with k x = ask (close k) (λ a. done x)

-- what cannot be asked is closed
abbrev pub typed : ℕ → Result Bool ℕ → Script (Result (Bool × ℕ) ℕ)
typed k (Ok b) = done (Ok (b, k))
typed k (Err s) = closing_with k (Err s)

abbrev pub typing : ℕ → Script (Result (Bool × ℕ) ℕ)
typing k = asking_regular k then typed k

-- the number of a handle, if it is of one kind; else it is the error
abbrev pub of_kind : Bool → Bool × ℕ → Result ℕ ℕ
of_kind true (true, k) = Ok k
of_kind true (false, k) = Err k
of_kind false (true, k) = Err k
of_kind false (false, k) = Ok k

-- any other is closed
abbrev pub kept : Result ℕ ℕ → Script (Option ℕ)
kept (Ok k) = done (Some k)
kept (Err k) = closing_with k None

abbrev pub kept_as : Bool → Result (Bool × ℕ) ℕ → Script (Option ℕ)
kept_as wanted (Ok x) = kept (of_kind wanted x)
kept_as wanted (Err s) = done None

abbrev pub keeping : Bool → ℕ → Script (Option ℕ)
keeping wanted k = typing k then kept_as wanted
