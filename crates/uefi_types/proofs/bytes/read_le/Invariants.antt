use Rattle.std.proofs.Common.{◌≡◌, take, drop}
use Rattle.uefi_types.specs.LittleEndian.{le_value}
use Rattle.uefi_types.proofs.bytes.read_le.Given as goal

-- the bytes from k on are read
abbrev pub invariant-loop-k : goal.invariant-loop-k
invariant-loop-k l = l.value ≡ le_value (drop l.k (take l.count l.bytes))
