use Rattle.std.proofs.Common.{◌∷◌}
use Rattle.uefi_path.specs.Meaning.{remaining}
use Rattle.ram_tables.proofs.Leading.{Walking}
use Rattle.ram_tables.proofs.tables.NodeTable.follow.Given as goal

-- the components so far lead to the directory
abbrev pub invariant-loop-next : goal.invariant-loop-next
invariant-loop-next l =
    (goal.iterator-loop-next).can_next l.rest × (goal.iterator-loop-next).is_finite l.rest
    × Walking l.self.rows l.from (l.initial.last ∷ remaining l.initial.rest) l.last (remaining l.rest) l.d
