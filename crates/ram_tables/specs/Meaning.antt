-- The rows of the two tables.
use Rattle.std.specs.Prelude.{List, Option}
use Rattle.volume.specs.declared.handle.Handle.{Handle}
use Rattle.ram_tables.specs.declared.rows.Row.{Row}
use Rattle.ram_tables.specs.declared.tables.NodeTable.{NodeTable}
use Rattle.ram_tables.specs.declared.tables.HandleTable.{HandleTable}

abbrev pub rows_of : NodeTable → List (Option Row)
rows_of t = t.rows

abbrev pub handles_of : HandleTable → List (Option Handle)
handles_of t = t.rows
