-- Runs of scripts put together and taken apart.
use Rattle.std.proofs.Common.{◌≡◌, Bool, true, false, cond, sym, refl, subst}
use Rattle.volume.specs.State.{State}
use Rattle.volume.specs.Scripts.{Script, done, ask, ◌then◌, Runs}

-- one run after another
pub runs_then : {A B : Type 0} (s : Script A) (f : A → Script B) (v u w : State) (x : A) (y : B) → Runs s v x u → Runs (f x) u y w → Runs (s then f) v y w
runs_then {A} {B} (done z) f v u w x y (e, d) r =
    subst (λ (z : A). Runs (f z) v y w) (sym e) (subst (λ (v : State). Runs (f x) v y w) (sym d) r)
runs_then (ask q k) f v u w x y (a, t, st, rest) r = (a, t, st, runs_then (k a) f t u w x y rest r)

-- a run of two scripts, one after the other, is a run of each
pub runs_split : {A B : Type 0} (s : Script A) (f : A → Script B) (v w : State) (y : B) → Runs (s then f) v y w → (x : A) × (u : State) × Runs s v x u × Runs (f x) u y w
runs_split (done z) f v w y r = (z, v, (refl, refl), r)
runs_split (ask q k) f v w y (a, t, st, rest) =
    let (x, u, first, second) = runs_split (k a) f t w y rest in
    (x, u, (a, t, st, first), second)

-- a script chosen by a test
pub runs_true : {A : Type 0} (b : Bool) (s t : Script A) (v w : State) (r : A) → b ≡ true → Runs s v r w → Runs (cond b s t) v r w
runs_true {A} b s t v w r e run = subst (λ (c : Bool). Runs (cond c s t) v r w) (sym e) run

pub runs_false : {A : Type 0} (b : Bool) (s t : Script A) (v w : State) (r : A) → b ≡ false → Runs t v r w → Runs (cond b s t) v r w
runs_false {A} b s t v w r e run = subst (λ (c : Bool). Runs (cond c s t) v r w) (sym e) run
