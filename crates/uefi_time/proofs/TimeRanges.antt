-- No field is outside of its range exactly if the time is valid.
use Rattle.std.proofs.Common.{◌≡◌, ℕ, suc, ◌≤◌, true, false, eqb, leb, ◌⊎◌, ℤ, pos, negsuc, ◌≤ℤ◌, ap, inl, inr, ⊎_elim, arith}
use Rattle.std.proofs.lemmas.Int.{ints}
use Rattle.std.proofs.lemmas.Bool.{or_parts, or_from, or_cases, or_left, or_right, not_from_true, not-false, leb-true, le-leb, eqb-true, eq-eqb}
use Rattle.std.proofs.lemmas.Bool.Decides.{nat_tests}
use Rattle.uefi_time.specs.Times.{outside, is_zone, time_errors, any_error, ValidTime}
use Rattle.uefi_time.specs.declared.time.Time.{Time}

within : (low high n : ℕ) → outside low high n ≡ false → (low ≤ n) × (n ≤ high)
within low high n h = (grind (arith, nat_tests), grind (arith, nat_tests))

not_outside : (low high n : ℕ) → low ≤ n → n ≤ high → outside low high n ≡ false
not_outside low high n l m = grind (arith, nat_tests)

abbrev Zone : ℤ → Type 0
Zone z = ((negsuc 1439 ≤ℤ z) × (z ≤ℤ pos 1440)) ⊎ (z ≡ pos 2047)

zone_from : (z : ℤ) → is_zone z ≡ true → Zone z
zone_from (pos n) h =
    ⊎_elim (λ l. let m : n ≤ 1440 = leb-true n 1440 l in inl (omega (arith, ints), omega (arith, ints))) (λ e. inr (ap pos (eqb-true n 2047 e))) (or_cases (leb n 1440) (eqb n 2047) h)
zone_from (negsuc n) h = let m : suc n ≤ 1440 = leb-true (suc n) 1440 h in inl (omega (arith, ints), omega (arith, ints))

is_zone_lem : (z : ℤ) → Zone z → is_zone z ≡ true
is_zone_lem (pos n) h =
    ⊎_elim (λ (p : (negsuc 1439 ≤ℤ pos n) × (pos n ≤ℤ pos 1440)). or_left (leb n 1440) (eqb n 2047) (le-leb n 1440 (omega (arith, ints))))
    (λ e. or_right (leb n 1440) (eqb n 2047) (eq-eqb n 2047 (let m : n ≡ 2047 = cc in m))) h
is_zone_lem (negsuc n) h =
    ⊎_elim (λ (p : (negsuc 1439 ≤ℤ negsuc n) × (negsuc n ≤ℤ pos 1440)). le-leb (suc n) 1440 (omega (arith, ints)))
    (λ e. absurd (let z : ◌≡◌ {A = ℕ} 0 1 = cc in omega arith)) h

pub valid_from : (t : Time) → any_error (time_errors t) ≡ false → ValidTime t
valid_from t none =
    let a = or_parts _ _ none in
    let b = or_parts _ _ a.0 in
    let d = or_parts _ _ b.0 in
    let e = or_parts _ _ d.0 in
    let f = or_parts _ _ e.0 in
    let g = or_parts _ _ f.0 in
    let h = or_parts _ _ g.0 in
    let i = or_parts _ _ h.0 in
    record {
      year = within 1900 9999 t.year i.0;
      month = within 1 12 t.month i.1;
      day = within 1 31 t.day h.1;
      hour = (within 0 23 t.hour g.1).1;
      minute = (within 0 59 t.minute f.1).1;
      second = (within 0 59 t.second e.1).1;
      nanosecond = (within 0 999999999 t.nanosecond d.1).1;
      timezone = zone_from t.time_zone (not-false _ b.1);
      daylight = let l = (within 0 3 t.daylight a.1).1 in omega arith;
    }

pub none_outside : (t : Time) → ValidTime t → any_error (time_errors t) ≡ false
none_outside t v =
    or_from _ _
    (or_from _ _
    (or_from _ _
    (or_from _ _
    (or_from _ _
    (or_from _ _
    (or_from _ _
    (or_from _ _ (not_outside 1900 9999 t.year v.year.0 v.year.1) (not_outside 1 12 t.month v.month.0 v.month.1))
    (not_outside 1 31 t.day v.day.0 v.day.1))
    (not_outside 0 23 t.hour (omega arith) v.hour))
    (not_outside 0 59 t.minute (omega arith) v.minute))
    (not_outside 0 59 t.second (omega arith) v.second))
    (not_outside 0 999999999 t.nanosecond (omega arith) v.nanosecond))
    (not_from_true _ (is_zone_lem t.time_zone v.timezone)))
    (not_outside 0 3 t.daylight (omega arith) (let l = v.daylight in omega arith))
