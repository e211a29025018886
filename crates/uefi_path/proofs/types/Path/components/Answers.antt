use Rattle.std.proofs.Common.{length, ap, ◌∙◌, arith}
use Rattle.uefi_path.specs.Components.{components, components_from}
use Rattle.uefi_path.proofs.Lawful.{cutting_of}
use Rattle.uefi_path.proofs.Pieces.{from_start}
use Rattle.uefi_path.proofs.Spreads.{length_components}
use Rattle.uefi_path.proofs.types.Path.components.Goals as goal

pub returns : goal.returns
returns c =
    let us = c.units-units.result.now in
    let here = ap (λ i. components_from i us) c.start_of_components-at.ensures ∙ from_start us in
    let all = here ∙ ap components c.units-units.ensures.value in
    record { value = all; few = omega (arith, ap length here, length_components us, c.units-units.ensures.short); law = cutting_of _ _ all }
