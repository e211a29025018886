-- What the methods of a volume return, as answers of its calls.
use Rattle.std.specs.Prelude.{ℕ, List, [], ◌++◌, length, take, drop, Ok, Err, Option, Result}
use Rattle.uefi_result.specs.declared.error.Error.{Error}
use Rattle.volume.specs.Calls.{Answer, accepted, refused}
use Rattle.volume.specs.State.{Due}

-- a refusal, by its status and the length that comes with it
abbrev pub refusing : Error ℕ → Answer
refusing e = refused e.status.0 e.data

-- a number, as a handle or a position
abbrev pub numbered : Result ℕ (Error ℕ) → Answer
numbered (Ok n) = accepted n []
numbered (Err e) = refusing e

-- no more than that it was done
abbrev pub settled : Result (Unit {0}) (Error ℕ) → Answer
settled (Ok x) = accepted 0 []
settled (Err e) = refusing e

-- bytes, which stand at the front of the buffer
abbrev pub delivered : Result ℕ (Error ℕ) → List ℕ → Answer
delivered (Ok n) after = accepted n (take n after)
delivered (Err e) after = refusing e

-- what a buffer holds that held `old`, once an answer delivered its bytes
abbrev pub filled : List ℕ → Answer → List ℕ
filled old (accepted n bytes) = bytes ++ drop (length bytes) old
filled old (refused s n) = old

-- what is due, as the question answers it: status, cap, size
abbrev pub due_row : Due → Option ℕ × Option ℕ × Option ℕ
due_row d = (d.status, d.cap, d.size)
