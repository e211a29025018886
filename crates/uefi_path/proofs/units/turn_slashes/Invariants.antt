use Rattle.std.proofs.Common.{◌≡◌, ◌++◌, take, drop}
use Rattle.uefi_path.specs.Parents.{turned}
use Rattle.uefi_path.proofs.units.turn_slashes.Given as goal

abbrev pub invariant-loop-unit : goal.invariant-loop-unit
invariant-loop-unit l = l.units ≡ turned (take l.unit-index l.initial.units) ++ drop l.unit-index l.initial.units
