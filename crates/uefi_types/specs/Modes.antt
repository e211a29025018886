-- How a file is opened, and the attributes of a file.
use Rattle.std.specs.Prelude.{ℕ, ◌+◌, ◌/◌, ◌%◌, ◌^◌, Bool, ◌==◌}
use Rattle.uefi_types.specs.declared.modes.FileMode.{FileMode}
use Rattle.uefi_types.specs.declared.modes.FileMode.TheVariants.{Read, ReadWrite, CreateReadWrite}

-- the open modes' bits: 0 reads, 1 writes, 63 creates
abbrev pub mode_bits : FileMode → ℕ
mode_bits Read = 2 ^ 0
mode_bits ReadWrite = 2 ^ 0 + 2 ^ 1
mode_bits CreateReadWrite = 2 ^ 0 + 2 ^ 1 + 2 ^ 63

-- whether the bit k of a number is set
abbrev pub has_bit : ℕ → ℕ → Bool
has_bit k n = n / 2 ^ k % 2 == 1

-- the attributes' bits; bit 3 is reserved
abbrev pub read_only_bit : ℕ
read_only_bit = 0

abbrev pub hidden_bit : ℕ
hidden_bit = 1

abbrev pub system_bit : ℕ
system_bit = 2

abbrev pub directory_bit : ℕ
directory_bit = 4

abbrev pub archive_bit : ℕ
archive_bit = 5
