-- A read in turns: what stands after some of them, and after one more.
use Rattle.std.proofs.Common.{◌≡◌, ℕ, zero, suc, ◌+◌, ◌-◌, ◌<◌, ◌≤◌, min, List, [], ◌++◌, length, take, drop, IfOk, Ok, Err, Result, sym, refl, ap, ◌∙◌, subst, arith, append_assoc, length-append}
use Rattle.std.proofs.lemmas.List.{take-append-drop, drop-append-le, drop-drop, take_at, drop_at, length-take, length-take-le, length-drop}
use Rattle.std.proofs.lemmas.Bool.{lt-ltb, le-ltb}
use borrow.Rule.Slice.PartMut.{put_mid}
use Rattle.uefi_result.specs.declared.error.Error.{Error}
use Rattle.volume.specs.State.{State}
use Rattle.volume.specs.Answers.{delivered, filled}
use Rattle.volume.specs.Calls.{accepted, refused, read, Step}
use Rattle.volume.specs.Scripts.{Runs, done, ask}
use Rattle.volume.proofs.Running.{runs_true, runs_false}
use Rattle.uefi_file.specs.Handles.{by_status}
use Rattle.uefi_file.specs.Reads.{chunk, over, asked, after_turn, turns, reading}

-- what stands after some turns: the bytes that they got are in front of the old ones, and what the turns to come end with, the whole read ends with
abbrev pub Turned : (k : ℕ) (old b : List ℕ) (t : ℕ) (v₀ v : State) → Type 0
Turned k old b t v₀ v = record {
  got : List ℕ;
  gotten : length got ≡ t;
  is : b ≡ over old got;
  within : t ≤ length old;
  fuel : ℕ;
  enough : length old - t ≤ fuel;
  goes_on : (r : Result ℕ ℕ × List ℕ) (w : State) → Runs (turns k fuel old got) v r w → Runs (reading k old) v₀ r w;
}

pub turned_none : (k : ℕ) (old : List ℕ) (v : State) → Turned k old old 0 v v
turned_none k old v = record { got = []; gotten = refl; is = refl; within = omega arith; fuel = length old; enough = omega arith; goes_on = λ r w run. run }

-- no turn is left where the buffer is full
full : (k fuel : ℕ) (old got : List ℕ) (v : State) → length old ≤ length got → Runs (turns k fuel old got) v (Ok (length got), over old got) v
full k zero old got v h = (refl, refl)
full k (suc f) old got v h =
    runs_false _ (ask (read k (asked old got)) (after_turn (turns k f old) old got)) (done (Ok (length got), over old got)) v v (Ok (length got), over old got) (le-ltb (length got) (length old) h) (refl, refl)

pub turned_all : (k : ℕ) (old b : List ℕ) (t : ℕ) (v₀ v : State) → Turned k old b t v₀ v → length old ≤ t → Runs (reading k old) v₀ (Ok (length old), b) v
turned_all k old b t v₀ v l h =
    let e : length l.got ≡ length old = omega (arith, l.gotten, l.within) in
    l.goes_on (Ok (length old), b) v (rw (← e, l.is) (full k l.fuel old l.got v (omega arith)))

module _ (k : ℕ) (old got : List ℕ) (v u : State) (some : length got < length old) (f : ℕ) where
  next : (r : Result ℕ ℕ × List ℕ) (w : State) → Runs (ask (read k (asked old got)) (after_turn (turns k f old) old got)) v r w → Runs (turns k (suc f) old got) v r w
  next r w run = runs_true _ (ask (read k (asked old got)) (after_turn (turns k f old) old got)) (done (Ok (length got), over old got)) v w r (lt-ltb (length got) (length old) some) run

  on : (n : ℕ) (bs : List ℕ) → Step v (read k (asked old got)) (accepted n bs) u → asked old got ≤ n → (r : Result ℕ ℕ × List ℕ) (w : State) → Runs (turns k f old (got ++ bs)) u r w → Runs (turns k (suc f) old got) v r w
  on n bs st h r w run = next r w (accepted n bs, u, st, runs_false _ (done (Ok (length (got ++ bs)), over old (got ++ bs))) (turns k f old (got ++ bs)) u w r (le-ltb n (asked old got) h) run)

  short : (n : ℕ) (bs : List ℕ) → Step v (read k (asked old got)) (accepted n bs) u → n < asked old got → Runs (turns k (suc f) old got) v (Ok (length (got ++ bs)), over old (got ++ bs)) u
  short n bs st h =
      next (Ok (length (got ++ bs)), over old (got ++ bs)) u
      (accepted n bs, u, st, runs_true _ (done (Ok (length (got ++ bs)), over old (got ++ bs))) (turns k f old (got ++ bs)) u u (Ok (length (got ++ bs)), over old (got ++ bs)) (lt-ltb n (asked old got) h) (refl, refl))

-- a part p written at t and on, of which the first n bytes were got
module _ (old b p : List ℕ) (t m : ℕ) (got : List ℕ) (gotten : length got ≡ t) (is : b ≡ over old got) where
  rest : drop t b ≡ drop t old
  rest = ap (drop t) is ∙ (drop_at got (drop (length got) old) t gotten ∙ ap (λ i. drop i old) gotten)

  written : (n : ℕ) → n ≤ length (take m (drop t b)) → p ≡ take n p ++ drop n (take m (drop t b)) → length (take n p) ≡ n → put_mid t m b p ≡ over old (got ++ take n p)
  written n h f e =
      let z = drop t b in
      let bs = take n p in
      let front : take t b ≡ got = ap (take t) is ∙ take_at got (drop (length got) old) t gotten in
      let back : p ++ drop m z ≡ bs ++ drop n z =
      ap (λ x. x ++ drop m z) f ∙ (append_assoc bs (drop n (take m z)) (drop m z) ∙ ap (λ x. bs ++ x) (sym (drop-append-le n (take m z) (drop m z) h) ∙ ap (drop n) (take-append-drop m z))) in
      let far : drop n z ≡ drop (t + n) old = ap (drop n) rest ∙ drop-drop n t old in
      let long : t + n ≡ length (got ++ bs) = omega (arith, length-append got bs, gotten, e) in
      ap (λ x. x ++ (p ++ drop m z)) front ∙ (ap (λ x. got ++ x) (back ∙ ap (λ x. bs ++ x) far)
      ∙ (sym (append_assoc got bs (drop (t + n) old)) ∙ ap (λ i. (got ++ bs) ++ drop i old) long))

ok_is : (q : Result ℕ (Error ℕ)) (n : ℕ) → by_status q ≡ Ok n → q ≡ Ok n
ok_is (Ok m) n h = cc
ok_is (Err x) n h = cc

err_is : (q : Result ℕ (Error ℕ)) (s : ℕ) → by_status q ≡ Err s → (x : Error ℕ) × (q ≡ Err x) × (x.status.0 ≡ s)
err_is (Ok m) s h = cc
err_is (Err x) s h = (x, refl, cc)

-- one more turn: r bytes were asked for at t, the answer was q, and p stands in that part of the buffer
pub record Turn (k : ℕ) (old b : List ℕ) (t : ℕ) (v₀ v : State) (r : ℕ) (q : Result ℕ (Error ℕ)) (p : List ℕ) (u : State) : Type 0 where
  pub before : Turned k old b t v₀ v
  pub same : length b ≡ length old
  pub some : t < length old
  pub asks : r ≡ min (length old - t) chunk
  pub kept : length p ≡ length (take (t + r - t) (drop t b))
  pub step : Step v (read k (length (take (t + r - t) (drop t b)))) (delivered q p) u
  pub fills : p ≡ filled (take (t + r - t) (drop t b)) (delivered q p)
  pub within : IfOk q (λ n. n ≤ length (take (t + r - t) (drop t b)))

module _ {k : ℕ} {old b : List ℕ} {t : ℕ} {v₀ v : State} {r : ℕ} {q : Result ℕ (Error ℕ)} {p : List ℕ} {u : State} (x : Turn k old b t v₀ v r q p u) where
  l : Turned k old b t v₀ v
  l = x.before

  here : length l.got < length old
  here = omega (arith, x.some, l.gotten)

  go : (y : Result ℕ ℕ × List ℕ) (w : State) → Runs (turns k (suc (l.fuel - 1)) old l.got) v y w → Runs (reading k old) v₀ y w
  go y w run = l.goes_on y w (let f : suc (l.fuel - 1) ≡ l.fuel = omega (arith, l.enough, x.some) in subst (λ (i : ℕ). Runs (turns k i old l.got) v y w) f run)

  long : length (take (t + r - t) (drop t b)) ≡ r
  long = omega (arith, length-take (t + r - t) (drop t b), length-drop t b, x.same, x.some, x.asks)

  size : r ≡ asked old l.got
  size = x.asks ∙ ap (λ i. min (length old - i) chunk) (sym l.gotten)

  step : Step v (read k (asked old l.got)) (delivered q p) u
  step = subst (λ (i : ℕ). Step v (read k i) (delivered q p) u) (long ∙ size) x.step

  pub turn_refused : (s : ℕ) → by_status q ≡ Err s → Runs (reading k old) v₀ (Err s, put_mid t (t + r - t) b p) u
  turn_refused s h =
      let m = t + r - t in
      let (y, is, f) = err_is q s h in
      let st' = subst (λ (z : Result ℕ (Error ℕ)). Step v (read k (asked old l.got)) (delivered z p) u) is step in
      let same' : p ≡ take m (drop t b) = subst (λ (z : Result ℕ (Error ℕ)). p ≡ filled (take m (drop t b)) (delivered z p)) is x.fills in
      let after : put_mid t m b p ≡ over old l.got =
      ap (λ z. take t b ++ (z ++ drop m (drop t b))) same' ∙ (ap (λ z. take t b ++ z) (take-append-drop m (drop t b)) ∙ (take-append-drop t b ∙ l.is)) in
      rw (after, ← f) (go (Err y.status.0, over old l.got) u (next k old l.got v u here (l.fuel - 1) (Err y.status.0, over old l.got) u (refused y.status.0 y.data, u, st', (refl, refl))))

  module _ (n : ℕ) (h : by_status q ≡ Ok n) where
    step_ok : Step v (read k (asked old l.got)) (accepted n (take n p)) u
    step_ok = subst (λ (z : Result ℕ (Error ℕ)). Step v (read k (asked old l.got)) (delivered z p) u) (ok_is q n h) step

    within_ok : n ≤ length (take (t + r - t) (drop t b))
    within_ok = subst (λ (z : Result ℕ (Error ℕ)). IfOk z (λ i. i ≤ length (take (t + r - t) (drop t b)))) (ok_is q n h) x.within

    got_ok : length (take n p) ≡ n
    got_ok = length-take-le n p (omega (arith, within_ok, x.kept))

    after_ok : put_mid t (t + r - t) b p ≡ over old (l.got ++ take n p)
    after_ok =
        let f : p ≡ take n p ++ drop (length (take n p)) (take (t + r - t) (drop t b)) =
        subst (λ (z : Result ℕ (Error ℕ)). p ≡ filled (take (t + r - t) (drop t b)) (delivered z p)) (ok_is q n h) x.fills in
        written old b p t (t + r - t) l.got l.gotten l.is n within_ok (f ∙ ap (λ i. take n p ++ drop i (take (t + r - t) (drop t b))) got_ok) got_ok

    count_ok : length (l.got ++ take n p) ≡ t + n
    count_ok = omega (arith, length-append l.got (take n p), l.gotten, got_ok)

    pub turn_short : n < r → Runs (reading k old) v₀ (Ok (t + n), put_mid t (t + r - t) b p) u
    turn_short less =
        rw (after_ok, ← count_ok)
        (go (Ok (length (l.got ++ take n p)), over old (l.got ++ take n p)) u (short k old l.got v u here (l.fuel - 1) n (take n p) step_ok (omega (arith, size))))

    pub turn_on : r ≤ n → (t' : ℕ) → t' ≡ t + r → Turned k old (put_mid t (t + r - t) b p) t' v₀ u
    turn_on more t' f = record {
      got = l.got ++ take n p;
      gotten = omega (arith, count_ok, within_ok, long);
      is = after_ok;
      within = omega (arith, x.some, x.asks);
      fuel = l.fuel - 1;
      enough = omega (arith, l.enough, x.some, x.asks);
      goes_on = λ y w run. go y w (on k old l.got v u here (l.fuel - 1) n (take n p) step_ok (omega (arith, size)) y w run);
    }
