-- What the structs mean: the units of a path, and the components that a cursor has yet to give.
use Rattle.std.specs.Prelude.{ℕ, List}
use Rattle.uefi_path.specs.Components.{components_from}
use Rattle.uefi_path.specs.declared.types.Path.{Path}
use Rattle.uefi_path.specs.declared.types.PathBuf.{PathBuf}
use Rattle.uefi_path.specs.declared.types.Components.{Components}

abbrev pub units_of : Path → List ℕ
units_of p = p.units.items

abbrev pub text_of : PathBuf → List ℕ
text_of b = units_of b.path

abbrev pub remaining : Components → List (List ℕ)
remaining c = components_from c.at c.units.now
