-- Little-endian bytes: their length and bounds, both round trips, and the steps of a loop that reads or writes them.
use Rattle.std.proofs.Common.{◌≡◌, ℕ, zero, suc, ◌+◌, ◌-◌, ◌*◌, ◌/◌, ◌%◌, ◌^◌, ◌<◌, ◌≤◌, List, [], ◌∷◌, ◌++◌, length, get_or, take, drop, set, sym, refl, ap, ◌∙◌, append_assoc, arith}
use native.Mathlib.Nat.{pow-succ', pow-le-pow_right}
use Rattle.std.proofs.lemmas.List.{at_drop_more, get_or-drop, take_more_set, take_all, append-nil, length-take}
use Rattle.uefi_types.specs.LittleEndian.{le_bytes, le_value, AreBytes}

pub le_length : (k n : ℕ) → length (le_bytes k n) ≡ k
le_length zero n = refl
le_length (suc k) n = ap suc (le_length k (n / 256))

-- four bytes, each by its own division
pub four : (n : ℕ) → (n % 256) ∷ (n / 256 % 256) ∷ (n / 65536 % 256) ∷ (n / 16777216 % 256) ∷ [] ≡ le_bytes 4 n
four n =
    let c : n / 65536 ≡ n / 256 / 256 = omega arith in
    let d : n / 16777216 ≡ n / 256 / 256 / 256 = omega arith in
    λ i. (n % 256) ∷ (n / 256 % 256) ∷ (c i % 256) ∷ (d i % 256) ∷ []

pub le_lt : (bs : List ℕ) → AreBytes bs → le_value bs < 256 ^ length bs
le_lt [] h = omega arith
le_lt (b ∷ bs) h = let r = le_lt bs (λ i. h (suc i)) in omega (arith, pow-succ' 256 (length bs), h 0)

pub le_below : (bs : List ℕ) (k : ℕ) → AreBytes bs → length bs ≤ k → le_value bs < 256 ^ k
le_below bs k h l = let p : 0 < 256 = omega arith in omega (arith, le_lt bs h, pow-le-pow_right p l)

-- a number that has room is read back
pub le_value_bytes : (k n : ℕ) → n < 256 ^ k → le_value (le_bytes k n) ≡ n
le_value_bytes zero n l = omega arith
le_value_bytes (suc k) n l =
    let p = pow-succ' 256 k in
    let q : n / 256 < 256 ^ k = omega (arith, p) in
    let r = le_value_bytes k (n / 256) q in
    omega arith

-- bytes that are read are written back
pub le_bytes_value : (bs : List ℕ) → AreBytes bs → le_bytes (length bs) (le_value bs) ≡ bs
le_bytes_value [] h = refl
le_bytes_value (b ∷ bs) h =
    let q : (b + 256 * le_value bs) / 256 ≡ le_value bs = omega (arith, h 0) in
    let r : (b + 256 * le_value bs) % 256 ≡ b = omega (arith, h 0) in
    (λ i. r i ∷ le_bytes (length bs) (q i)) ∙ ap (λ t. b ∷ t) (le_bytes_value bs (λ i. h (suc i)))

pub le_are_bytes : (k n : ℕ) → AreBytes (le_bytes k n)
le_are_bytes zero n i = omega arith
le_are_bytes (suc k) n zero = omega arith
le_are_bytes (suc k) n (suc i) = le_are_bytes k (n / 256) i

pub bytes_drop : (n : ℕ) (bs : List ℕ) → AreBytes bs → AreBytes (drop n bs)
bytes_drop n bs h i = rw get_or-drop (h (n + i))

pub bytes_take : (n : ℕ) (bs : List ℕ) → AreBytes bs → AreBytes (take n bs)
bytes_take zero bs h i = omega arith
bytes_take (suc n) [] h i = omega arith
bytes_take (suc n) (b ∷ bs) h zero = h 0
bytes_take (suc n) (b ∷ bs) h (suc i) = bytes_take n bs (λ j. h (suc j)) i

pub bytes_none : AreBytes []
bytes_none i = omega arith

pub bytes_cons : (x : ℕ) (xs : List ℕ) → x < 256 → AreBytes xs → AreBytes (x ∷ xs)
bytes_cons x xs l h zero = l
bytes_cons x xs l h (suc i) = h i

pub bytes_append : (xs ys : List ℕ) → AreBytes xs → AreBytes ys → AreBytes (xs ++ ys)
bytes_append [] ys h k i = k i
bytes_append (x ∷ xs) ys h k zero = h 0
bytes_append (x ∷ xs) ys h k (suc i) = bytes_append xs ys (λ j. h (suc j)) k i

-- one byte more of those that are read from the last on
pub read_more : (bs : List ℕ) (k : ℕ) → 0 < k → k ≤ length bs → le_value (drop k bs) * 256 + get_or bs (k - 1) 0 ≡ le_value (drop (k - 1) bs)
read_more bs k p l =
    let e : k - 1 + 1 ≡ k = omega arith in
    let s = at_drop_more le_value bs (k - 1) 0 (omega arith) ∙ ap (λ j. get_or bs (k - 1) 0 + 256 * le_value (drop j bs)) e in
    omega arith

-- the first eight bytes of a list have room in as many as it has
pub taken_below : (bs : List ℕ) → AreBytes bs → le_value (take 8 bs) < 256 ^ length bs
taken_below bs h = le_below (take 8 bs) (length bs) (bytes_take 8 bs h) (rw length-take (omega arith))

module _ (bs all : List ℕ) (i n rest : ℕ) (long : length bs ≡ n) (left : all ≡ take i bs ++ le_bytes (n - i) rest) where
  pub write_more : i < n → all ≡ take (i + 1) (set bs i (rest % 256)) ++ le_bytes (n - (i + 1)) (rest / 256)
  write_more l =
      let e : n - i ≡ suc (n - (i + 1)) = omega arith in
      let t = le_bytes (n - (i + 1)) (rest / 256) in
      left ∙ ap (λ k. take i bs ++ le_bytes k rest) e ∙ sym (append_assoc (take i bs) (rest % 256 ∷ []) t) ∙
      ap (λ front. front ++ t) (sym (take_more_set bs i (rest % 256) (omega arith)))

  pub write_all : n ≤ i → bs ≡ all
  write_all l =
      let e : n - i ≡ 0 = omega arith in
      sym (left ∙ (λ j. take_all i bs (omega arith) j ++ le_bytes (e j) rest) ∙ append-nil bs)
