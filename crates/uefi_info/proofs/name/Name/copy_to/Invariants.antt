use Rattle.std.proofs.Common.{◌≡◌, ◌++◌, length, take, drop}
use Rattle.uefi_info.specs.Records.{units_of}
use Rattle.uefi_info.proofs.name.Name.copy_to.Given as goal

-- the units so far are copied
abbrev pub invariant-loop-place : goal.invariant-loop-place
invariant-loop-place l = l.out ≡ take (length l.yielded) (units_of l.self.bytes.now) ++ drop (length l.yielded) l.initial.out
