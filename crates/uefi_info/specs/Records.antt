-- A record of the file protocol: a header, then a name of 16-bit units with its NUL, padded with zeros to an alignment.
use Rattle.std.specs.Prelude.{◌≡◌, ℕ, ◌+◌, ◌*◌, ◌<◌, Bool, true, cond, not, ◌&&◌, List, [], ◌∷◌, ◌++◌, length, take, drop, replicate, Some, None, Option, ◌==◌, slice_index}
use Rattle.std.specs.List.{list_all}
use Rattle.std.specs.Option.{option_map}
use Rattle.uefi_types.specs.Aligned.{padding, round_up}
use Rattle.uefi_types.specs.LittleEndian.{le_bytes, le_value}

-- the bytes of a name's units
abbrev pub unit_bytes : List ℕ → List ℕ
unit_bytes [] = []
unit_bytes (u ∷ us) = le_bytes 2 u ++ unit_bytes us

-- the units that bytes hold
abbrev pub units_of : List ℕ → List ℕ
units_of [] = []
units_of (a ∷ []) = []
units_of (a ∷ b ∷ bs) = le_value (a ∷ b ∷ []) ∷ units_of bs

-- how many units stand before the first NUL
abbrev pub name_length : List ℕ → Option ℕ
name_length [] = None
name_length (a ∷ []) = None
name_length (a ∷ b ∷ bs) = cond (a == 0 && b == 0) (Some 0) (option_map (λ n. n + 1) (name_length bs))

-- the size of a record whose name starts at an offset and has n units: up to the NUL and with it
abbrev pub record_size : ℕ → ℕ → ℕ
record_size offset n = offset + 2 * (n + 1)

-- the length of its padded bytes
abbrev pub record_length : ℕ → ℕ → ℕ → ℕ
record_length offset align n = round_up align (record_size offset n)

-- a header and a name with its NUL
abbrev pub unpadded : List ℕ → List ℕ → List ℕ
unpadded header name = header ++ unit_bytes name ++ (0 ∷ 0 ∷ [])

-- the bytes of a record
abbrev pub record_bytes : ℕ → List ℕ → List ℕ → List ℕ
record_bytes align header name = unpadded header name ++ replicate (padding align (length (unpadded header name))) 0

-- units are numbers below 65536
abbrev pub AreUnits : List ℕ → Type 0
AreUnits us = (i : ℕ) → slice_index us i < 65536

abbrev pub no_nul : List ℕ → Bool
no_nul us = list_all (λ u. not (u == 0)) us

-- a name and its NUL stand in front of some bytes
abbrev pub NameIn : List ℕ → List ℕ → Type 0
NameIn bs us = (rest : List ℕ) × (bs ≡ unit_bytes us ++ (0 ∷ 0 ∷ rest)) × (no_nul us ≡ true)

-- the padding of a record that lies in front of some bytes is zeros
abbrev pub ZeroPadded : ℕ → ℕ → ℕ → List ℕ → Type 0
ZeroPadded offset align n bs =
    take (padding align (record_size offset n)) (drop (record_size offset n) bs) ≡ replicate (padding align (record_size offset n)) 0
