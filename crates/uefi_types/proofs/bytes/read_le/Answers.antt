use Rattle.std.proofs.Common.{◌≡◌, ℕ, ◌-◌, ◌^◌, ◌<◌, ◌≤◌, min, List, length, take, drop, sym, ap, ◌∙◌, ⊎_elim, arith}
use Rattle.std.proofs.lemmas.List.{length-take, length-drop, drop_all, get_or-take, take_all}
use Rattle.std.proofs.lemmas.Bool.{cases_lt}
use Rattle.uefi_types.specs.LittleEndian.{le_value, AreBytes}
use Rattle.uefi_types.proofs.Endian.{le_below, bytes_take, bytes_drop, read_more, taken_below}
use Rattle.uefi_types.proofs.bytes.read_le.Goals as goal

-- what is read before the last turn has room for one byte more
room : (bs : List ℕ) (n k v : ℕ) → AreBytes bs → n ≤ 8 → 0 < k → v ≡ le_value (drop k (take n bs)) → v < 256 ^ 7
room bs n k v h few p e =
    let short : length (drop k (take n bs)) ≤ 7 = simp (length-drop, length-take) (omega arith) in
    omega (arith, le_below (drop k (take n bs)) 7 (bytes_drop k (take n bs) (bytes_take n bs h)) short)

front : (bs : List ℕ) (n : ℕ) → n ≡ min (length bs) 8 → take n bs ≡ take 8 bs
front bs n e =
    ⊎_elim (λ l. let m : n ≡ 8 = omega arith in ap (λ k. take k bs) m)
    (λ l. take_all n bs (omega (arith, e, l)) ∙ sym (take_all 8 bs (omega (arith, l))))
    (cases_lt 8 (length bs))

pub loop-k-init : goal.loop-k-init
loop-k-init c =
    let bs = c.args.bytes.now in
    let n = c.min-count.result in
    let l : length (take n bs) ≤ n = rw length-take (omega arith) in
    sym (ap le_value (drop_all n (take n bs) l))

pub overflow_mul-value : goal.overflow_mul-value
overflow_mul-value c =
    let r = room c.args.bytes.now c.min-count.result c.loop-k.k c.loop-k.value (λ i. (c.type_inv.bytes i).fits) (omega arith) c.loop-k-test.true c.loop-k.invariant in
    omega arith

pub overflow_add-value : goal.overflow_add-value
overflow_add-value c =
    let r = room c.args.bytes.now c.min-count.result c.loop-k.k c.loop-k.value (λ i. (c.type_inv.bytes i).fits) (omega arith) c.loop-k-test.true c.loop-k.invariant in
    omega (arith, c.type_inv.bytes (c.loop-k.k - 1))

pub loop-k-preserved : goal.loop-k-preserved
loop-k-preserved c =
    let bs = c.args.bytes.now in
    let n = c.min-count.result in
    let k = c.loop-k.k in
    let l : k ≤ length (take n bs) = rw length-take (omega arith) in
    let e = get_or-take n bs (k - 1) 0 (omega arith) in
    let s = read_more (take n bs) k c.loop-k-test.true l in
    omega (arith, c.from.ensures)

pub returns : goal.returns
returns c =
    let bs = c.args.bytes.now in
    let n = c.min-count.result in
    let k : c.loop-k.k ≡ 0 = omega arith in
    let e = c.loop-k.invariant ∙ ap (λ k. le_value (drop k (take n bs))) k in
    let value : c.loop-k.value ≡ le_value (take 8 bs) = e ∙ ap le_value (front bs n c.min-count.ensures) in
    record { value = value; bound = omega (arith, taken_below bs (λ i. (c.type_inv.bytes i).fits)) }
