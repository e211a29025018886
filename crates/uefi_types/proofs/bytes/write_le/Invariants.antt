use Rattle.std.proofs.Common.{◌≡◌, ◌-◌, ◌++◌, length, take}
use Rattle.uefi_types.specs.LittleEndian.{le_bytes}
use Rattle.uefi_types.proofs.bytes.write_le.Given as goal

-- the rest of the number gives the bytes still to come
abbrev pub invariant-loop-byte : goal.invariant-loop-byte
invariant-loop-byte l = le_bytes (length l.initial.bytes) l.value ≡ take l.byte-index l.bytes ++ le_bytes (length l.initial.bytes - l.byte-index) l.rest
