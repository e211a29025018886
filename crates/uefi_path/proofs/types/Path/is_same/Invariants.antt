use Rattle.std.proofs.Common.{◌≡◌}
use Rattle.uefi_path.specs.Meaning.{remaining}
use Rattle.uefi_path.proofs.types.Path.is_same.Given as goal

-- the two are the same exactly if what is left of them is
abbrev pub invariant-loop-a : goal.invariant-loop-a
invariant-loop-a l =
    (goal.iterator-loop-a).can_next l.mine × (goal.iterator-loop-a).is_finite l.mine
    × (remaining l.mine ≡ remaining l.others → remaining l.initial.mine ≡ remaining l.initial.others)
    × (remaining l.initial.mine ≡ remaining l.initial.others → remaining l.mine ≡ remaining l.others)
