-- Reads of a file in turns, as a script.
use Rattle.std.specs.Prelude.{ℕ, zero, suc, ◌-◌, min, cond, List, [], ◌++◌, length, drop, Ok, Err, Result, nat_lt}
use Rattle.volume.specs.Calls.{Answer, accepted, refused, read}
use Rattle.volume.specs.Scripts.{Script, done, ask}

-- the most bytes of one turn
abbrev pub chunk : ℕ
chunk = 1048576

-- a buffer with other bytes in front
abbrev pub over : List ℕ → List ℕ → List ℕ
over old got = got ++ drop (length got) old

-- how many bytes a turn asks for, when so many are there
abbrev pub asked : List ℕ → List ℕ → ℕ
asked old got = min (length old - length got) chunk

-- a turn's answer: a refusal ends the read, a short turn too, and else the next turn comes
abbrev pub after_turn : (List ℕ → Script (Result ℕ ℕ × List ℕ)) → List ℕ → List ℕ → Answer → Script (Result ℕ ℕ × List ℕ)
after_turn next old got (refused s l) = done (Err s, over old got)
after_turn next old got (accepted n bs) = cond (nat_lt n (asked old got)) (done (Ok (length (got ++ bs)), over old (got ++ bs))) (next (got ++ bs))

-- turns until the buffer is full: the count or the refusal, and what the buffer holds then
abbrev pub turns : ℕ → ℕ → List ℕ → List ℕ → Script (Result ℕ ℕ × List ℕ)
turns k zero old got = done (Ok (length got), over old got)
turns k (suc fuel) old got =
    cond (nat_lt (length got) (length old)) (ask (read k (asked old got)) (after_turn (turns k fuel old) old got)) (done (Ok (length got), over old got))

-- no read takes more turns than its buffer has bytes
abbrev pub reading : ℕ → List ℕ → Script (Result ℕ ℕ × List ℕ)
reading k old = turns k (length old) old []
