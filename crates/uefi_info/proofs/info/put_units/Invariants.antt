use Rattle.std.proofs.Common.{◌≡◌, ◌*◌, ◌++◌, take, drop}
use Rattle.uefi_info.specs.Records.{unit_bytes}
use Rattle.uefi_info.proofs.info.put_units.Given as goal

-- the first k units are written
abbrev pub invariant-loop-k : goal.invariant-loop-k
invariant-loop-k l = l.out ≡ unit_bytes (take l.k l.units) ++ drop (2 * l.k) l.initial.out
