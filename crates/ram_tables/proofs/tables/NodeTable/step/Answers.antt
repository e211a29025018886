use Rattle.std.proofs.Common.{◌≡◌, ℕ, subst, inr}
use mathlib.Core.Logic.{∥∥₁_elim}
use mathlib.Core.HLevel.{⊥_prop}
use Rattle.std.proofs.lemmas.Bool.Decides.{not_from_Decides}
use Rattle.volume.specs.Tree.{directory, Holds}
use Rattle.ram_tables.specs.Tables.{tree_of}
use Rattle.ram_tables.proofs.Known.{directory_any}
use Rattle.ram_tables.proofs.tables.NodeTable.step.Goals as goal

pub returns-else-is_directory : goal.returns-else-is_directory
returns-else-is_directory c =
    let t = c.args.self.now in
    inr (λ bytes m e h. ∥∥₁_elim t.whole ⊥_prop (λ w.
    let z : m ≡ c.in_ok-n.n = (w.tree bytes).names_apart c.args.d m c.in_ok-n.n c.args.name.now e (c.in_ok-n.ensures.found bytes) in
    not_from_Decides _ c.is_directory.ensures c.if-is_directory.false
    (λ other. directory_any t.rows bytes other c.in_ok-n.n (subst (λ (k : ℕ). Holds (tree_of t.rows bytes) k directory) z h))))

pub returns-in_err-n : goal.returns-in_err-n
returns-in_err-n c = rw c.from_residual.ensures (inr (λ bytes n e h. c.in_err-n.ensures.found bytes n e))
