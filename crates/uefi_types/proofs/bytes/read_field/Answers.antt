use Rattle.std.proofs.Common.{◌≤◌, min, length, take, drop, ap, ◌∙◌, arith}
use Rattle.std.proofs.lemmas.List.{length-take, take_all}
use Rattle.uefi_types.specs.LittleEndian.{le_value}
use Rattle.uefi_types.proofs.Endian.{le_below, bytes_take, bytes_drop}
use Rattle.uefi_types.proofs.bytes.read_field.Goals as goal

pub returns : goal.returns
returns c =
    let bs = c.args.bytes.now in
    let m = min c.args.width 8 in
    let xs = take m (drop c.args.at bs) in
    let few : length xs ≤ 8 = rw length-take (omega arith) in
    let short : length xs ≤ c.args.width = rw length-take (omega arith) in
    let is = c.part.ensures ∙ ap (λ k. take k (drop c.args.at bs)) c.min.ensures in
    let value = c.read_le.ensures.value ∙ ap (λ t. le_value (take 8 t)) is ∙ ap le_value (take_all 8 xs few) in
    let below = le_below xs c.args.width (bytes_take m (drop c.args.at bs) (bytes_drop c.args.at bs (λ i. (c.type_inv.bytes i).fits))) short in
    record { value = value; bound = omega arith }
