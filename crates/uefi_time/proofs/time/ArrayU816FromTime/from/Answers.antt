use Rattle.std.proofs.Common.{◌≡◌, ℕ, ◌/◌, ◌%◌, List, [], ◌∷◌, get_or, ap, ◌∙◌, w16, SFits, of_z, rules}
use Rattle.std.proofs.lemmas.Int.{to_z-of_z}
use Rattle.uefi_time.specs.Times.{time_bytes, time_of}
use Rattle.uefi_types.proofs.Endian.{four}
use Rattle.uefi_time.proofs.TimeBytes.{time_of_bytes}
use Rattle.uefi_time.proofs.time.ArrayU816FromTime.from.Goals as goal

pub returns : goal.returns
unfolding time_bytes
returns c =
    let t = c.args.time in
    let bytes : List ℕ → List ℕ → List ℕ → List ℕ =
    λ y n z. get_or y 0 0 ∷ get_or y 1 0 ∷ t.month ∷ t.day ∷ t.hour ∷ t.minute ∷ t.second ∷ t.pad1 ∷ get_or n 0 0 ∷ get_or n 1 0 ∷ get_or n 2 0 ∷ get_or n 3 0 ∷ get_or z 0 0 ∷ get_or z 1 0 ∷ t.daylight ∷ t.pad2 ∷ [] in
    let n = c.to_le_bytes-nanosecond.ensures ∙ four t.nanosecond in
    let fits : SFits w16 t.time_zone = search rules in
    let z = c.to_le_bytes-time_zone.ensures ∙ ap (λ m. (of_z w16 m % 256) ∷ (of_z w16 m / 256 % 256) ∷ []) (to_z-of_z w16 t.time_zone fits) in
    let value : _ ≡ time_bytes t = λ i. bytes (c.to_le_bytes-year.ensures i) (n i) (z i) in
    (value, ap time_of value ∙ time_of_bytes t (record { year = search rules; nanosecond = search rules; zone = fits }))
