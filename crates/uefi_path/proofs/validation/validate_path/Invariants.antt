use Rattle.std.proofs.Common.{◌≡◌}
use Rattle.uefi_path.specs.Meaning.{remaining}
use Rattle.uefi_path.specs.Validity.{first_fault}
use Rattle.uefi_path.proofs.validation.validate_path.Given as goal

-- what is left decides
abbrev pub invariant-loop-component : goal.invariant-loop-component
invariant-loop-component l =
    (goal.iterator-loop-component).can_next l.component-iterator × (goal.iterator-loop-component).is_finite l.component-iterator
    × (first_fault (remaining l.component-iterator) ≡ first_fault (remaining l.initial.component-iterator))
