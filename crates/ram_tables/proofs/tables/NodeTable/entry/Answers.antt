use Rattle.std.proofs.Common.{rules}
use Rattle.ram_tables.proofs.Known.{found_named}
use Rattle.ram_tables.proofs.tables.NodeTable.entry.Goals as goal

pub returns-clause-found : goal.returns-clause-found
returns-clause-found c = found_named c.args.self.now.rows c.args.d c.args.name.now c.find.result (search rules)
