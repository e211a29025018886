-- A buffer that is filled from the front, part by part.
use Rattle.std.proofs.Common.{◌≡◌, ℕ, zero, suc, ◌+◌, ◌/◌, ◌%◌, ◌^◌, List, ◌∷◌, ◌++◌, length, take, drop, sym, refl, ap, ◌∙◌, append_assoc, arith}
use borrow.Rule.Slice.PartMut.{put_mid}
use Rattle.std.proofs.Math.Nat.{div-div-eq-div-mul, pow-suc}
use Rattle.std.proofs.lemmas.List.{take_at, drop_at, drop-drop}
use Rattle.std.specs.Int.{bytes_low_first}
use Rattle.uefi_types.specs.LittleEndian.{le_bytes}

-- one part more
pub put_more : (old done part out : List ℕ) (a k : ℕ) → out ≡ done ++ drop a old → length done ≡ a → put_mid a k out part ≡ done ++ part ++ drop (a + k) old
put_more old done part out a k e long =
    (λ i. take a (e i) ++ (part ++ drop k (drop a (e i)))) ∙
    (λ i. take_at done (drop a old) a long i ++ (part ++ drop k (drop_at done (drop a old) a long i))) ∙
    ap (λ t. done ++ (part ++ t)) (drop-drop k a old) ∙ sym (append_assoc done part (drop (a + k) old))

-- the same of a part whose bytes are known by another name
pub put_known : (old done part bytes out : List ℕ) (a k : ℕ) → out ≡ done ++ drop a old → length done ≡ a → part ≡ bytes → put_mid a k out part ≡ done ++ bytes ++ drop (a + k) old
put_known old done part bytes out a k e long is = ap (put_mid a k out) is ∙ put_more old done bytes out a k e long

-- the low bytes of a number, as the language names them
le_from : (k i n m : ℕ) → m ≡ n / 256 ^ i → bytes_low_first i k n ≡ le_bytes k m
le_from zero i n m e = refl
le_from (suc k) zero n m e =
    let one : n / 1 ≡ n = omega arith in
    let same : n ≡ m = sym (e ∙ one) in
    let next : m / 256 ≡ n / 256 = ap (λ t. t / 256) (sym same) in
    λ t. same t % 256 ∷ le_from k 1 n (m / 256) next t
le_from (suc k) (suc i) n m e =
    let next : m / 256 ≡ n / 256 ^ suc (suc i) = ap (λ t. t / 256) e ∙ div-div-eq-div-mul n (256 ^ suc i) 256 ∙ ap (λ t. n / t) (sym (pow-suc 256 (suc i))) in
    λ t. sym e t % 256 ∷ le_from k (suc (suc i)) n (m / 256) next t

pub le_whole : (k n : ℕ) → bytes_low_first 0 k n ≡ le_bytes k n
le_whole k n = let one : n ≡ n / 1 = omega arith in le_from k 0 n n one
