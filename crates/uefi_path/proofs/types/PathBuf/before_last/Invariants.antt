use Rattle.uefi_path.specs.Meaning.{units_of, remaining}
use Rattle.uefi_path.proofs.Joins.{Joining}
use Rattle.uefi_path.proofs.types.PathBuf.before_last.Given as goal

abbrev pub invariant-loop-next : goal.invariant-loop-next
invariant-loop-next l =
    (goal.iterator-loop-next).can_next l.next-iterator × (goal.iterator-loop-next).is_finite l.next-iterator
    × Joining (units_of l.path) l.units.items l.last (remaining l.next-iterator)
