use Rattle.std.proofs.Common.{List, reverse, sym, ◌∙◌, subst, inr}
use Rattle.std.proofs.lemmas.Bool.Decides.{not_from_Decides}
use Rattle.uefi_path.specs.Meaning.{remaining}
use Rattle.volume.specs.Tree.{Name}
use Rattle.ram_tables.specs.Lookups.{Lost}
use Rattle.ram_tables.proofs.Known.{directory_any}
use Rattle.ram_tables.proofs.Leading.{nowhere_from}
use Rattle.ram_tables.proofs.tables.NodeTable.lead.Goals as goal

pub returns-then-not-is_directory : goal.returns-then-not-is_directory
returns-then-not-is_directory c =
    let t = c.args.self.now in
    inr (subst (λ (p : List Name). Lost t.rows c.args.from (reverse p)) (sym (sym c.components-parts.ensures.value ∙ c.in-Some.ensures.steps))
    (nowhere_from t.rows c.args.from c.in-Some.first.now (remaining c.next.new.self) t.whole
    (λ bytes h. not_from_Decides _ c.is_directory.ensures c.if-not-is_directory.true (λ other. directory_any t.rows bytes other c.args.from h))))
