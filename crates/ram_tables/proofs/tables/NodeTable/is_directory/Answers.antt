use Rattle.std.proofs.Common.{◌≡◌, Bool, rules}
use Rattle.ram_tables.specs.Tables.{row}
use Rattle.ram_tables.proofs.Known.{decides_directory}
use Rattle.ram_tables.proofs.Grids.{copied_match}
use Rattle.ram_tables.proofs.tables.NodeTable.is_directory.Goals as goal

pub returns : goal.returns
returns c =
    let rows = c.args.self.now.rows in
    let b : Bool = c.is_some_and.result in
    decides_directory rows c.args.n b (copied_match _ (λ x. b ≡ x.directory) c.row.result (row rows c.args.n) c.row.ensures.is (search rules))
