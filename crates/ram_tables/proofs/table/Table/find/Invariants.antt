use Rattle.std.proofs.Common.{◌≡◌, ℕ, ◌+◌, ◌<◌, ◌≤◌, false, Some}
use Rattle.ram_tables.specs.Tables.{row, Says}
use Rattle.ram_tables.proofs.table.Table.find.Given as goal

-- no row from the first to here passes
abbrev pub invariant-loop-k : goal.invariant-loop-k
invariant-loop-k g l = (m : ℕ) (x : _) → m < l.start + l.k → row l.self m ≡ Some x → l.first ≤ m → Says g.F.Fn l.test m x false
