-- What is left of a name whose units are told in turn.
use Rattle.std.specs.Prelude.{ℕ, List}
use Rattle.uefi_info.specs.Records.{units_of}
use Rattle.uefi_info.specs.declared.name.Units.{Units}

abbrev pub units_left : Units → List ℕ
units_left s = units_of s.bytes.now
