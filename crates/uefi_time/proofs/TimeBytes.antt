-- A time and its 16 bytes: each gives the other back.
use Rattle.std.proofs.Common.{◌≡◌, ℕ, ◌+◌, ◌*◌, ◌^◌, ◌<◌, List, [], ◌∷◌, ◌++◌, map, length, get_or, ℤ, pos, negsuc, sym, refl, ap, ◌∙◌, arith, w16, SFits, to_z, of_z}
use Rattle.std.proofs.lemmas.List.FromFn.{fill_by_all}
use Rattle.std.proofs.lemmas.Int.{to_z-of_z, of_z-to_z}
use Rattle.std.specs.List.{range_with_len}
use Rattle.uefi_types.specs.LittleEndian.{le_bytes, le_value, AreBytes}
use Rattle.uefi_time.specs.Times.{time_of, time_bytes}
use Rattle.uefi_time.specs.declared.time.Time.{Time}
use Rattle.uefi_types.proofs.Endian.{le_value_bytes, le_bytes_value, le_lt, bytes_none, bytes_cons}

pub time_length : (t : Time) → length (time_bytes t) ≡ 16
unfolding time_bytes
time_length t = refl

-- the fields of a time have their widths
pub record TimeFits (t : Time) : Type 0 where
  pub year : t.year < 256 ^ 2
  pub nanosecond : t.nanosecond < 256 ^ 4
  pub zone : SFits w16 t.time_zone

of_z_lt : (z : ℤ) → SFits w16 z → of_z w16 z < 256 ^ 2
of_z_lt (pos n) f = let l = f.sfits in omega arith
of_z_lt (negsuc n) f = omega arith

pub time_of_bytes : (t : Time) → TimeFits t → time_of (time_bytes t) ≡ t
unfolding time_of time_bytes
time_of_bytes t f =
    let one : (n : ℕ) → n + 256 * 0 ≡ n = λ n. omega arith in
    let low : of_z w16 t.time_zone < 256 ^ 2 = of_z_lt t.time_zone f.zone in
    λ i. record {
      year = le_value_bytes 2 t.year f.year i;
      month = one t.month i;
      day = one t.day i;
      hour = one t.hour i;
      minute = one t.minute i;
      second = one t.second i;
      pad1 = one t.pad1 i;
      nanosecond = le_value_bytes 4 t.nanosecond f.nanosecond i;
      time_zone = (ap (to_z w16) (le_value_bytes 2 (of_z w16 t.time_zone) low) ∙ to_z-of_z w16 t.time_zone f.zone) i;
      daylight = one t.daylight i;
      pad2 = one t.pad2 i;
    }

module _ (b : ℕ → ℕ) (h : (i : ℕ) → b i < 256) where
  bytes_of_sixteen : time_bytes (time_of (map b (range_with_len 0 16))) ≡ map b (range_with_len 0 16)
  unfolding time_of time_bytes
  bytes_of_sixteen =
      let one : (i : ℕ) → b i + 256 * 0 ≡ b i = λ i. omega arith in
      let pair : (i j : ℕ) → AreBytes (b i ∷ b j ∷ []) = λ i j. bytes_cons (b i) (b j ∷ []) (h i) (bytes_cons (b j) [] (h j) bytes_none) in
      let quad : AreBytes (b 8 ∷ b 9 ∷ b 10 ∷ b 11 ∷ []) = bytes_cons (b 8) (b 9 ∷ b 10 ∷ b 11 ∷ []) (h 8) (bytes_cons (b 9) (b 10 ∷ b 11 ∷ []) (h 9) (pair 10 11)) in
      let zone = ap (le_bytes 2) (of_z-to_z w16 (le_value (b 12 ∷ b 13 ∷ [])) (le_lt (b 12 ∷ b 13 ∷ []) (pair 12 13))) ∙ le_bytes_value (b 12 ∷ b 13 ∷ []) (pair 12 13) in
      λ i.
      le_bytes_value (b 0 ∷ b 1 ∷ []) (pair 0 1) i ++ (one 2 i ∷ one 3 i ∷ one 4 i ∷ one 5 i ∷ one 6 i ∷ one 7 i ∷ []) ++
      le_bytes_value (b 8 ∷ b 9 ∷ b 10 ∷ b 11 ∷ []) quad i ++ zone i ++ (one 14 i ∷ one 15 i ∷ [])

pub bytes_of_time : (bs : List ℕ) → length bs ≡ 16 → AreBytes bs → time_bytes (time_of bs) ≡ bs
bytes_of_time bs long h =
    let e : bs ≡ map (λ k. get_or bs k 0) (range_with_len 0 16) = fill_by_all (λ k. get_or bs k 0) bs 16 0 long (λ k l. refl) in
    ap (λ t. time_bytes (time_of t)) e ∙ bytes_of_sixteen (λ k. get_or bs k 0) h ∙ sym e
