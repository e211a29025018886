-- Scripts: programs of volume calls, each chosen by the answers to those before.
use Rattle.std.specs.Prelude.{◌≡◌, ◌⊎◌, Ok, Err, Result}
use Rattle.volume.specs.State.{State}
use Rattle.volume.specs.Calls.{Call, Answer, Step}

pub data Script (R : Type 0) : Type 0 where
  done : R → Script R
  ask : Call → (Answer → Script R) → Script R

infixl 20 ◌then◌
infixl 20 ◌onwards◌
abbrev pub ◌then◌ : {A B : Type 0} → Script A → (A → Script B) → Script B
◌then◌ (done x) f = f x
◌then◌ (ask q k) f = ask q (λ a. ◌then◌ (k a) f)

abbrev pub unless_refused : {A B E : Type 0} → (A → Script (Result B E)) → Result A E → Script (Result B E)
unless_refused f (Ok x) = f x
unless_refused f (Err e) = done (Err e)

-- what comes next, unless the first ended in a refusal
abbrev pub ◌onwards◌ : {A B E : Type 0} → Script (Result A E) → (A → Script (Result B E)) → Script (Result B E)
s onwards f = s then (unless_refused f)

-- the script ran from one state of a volume to another, and ended with r
abbrev pub Runs : {R : Type 0} → Script R → State → R → State → Type 0
Runs (done x) v r w = (x ≡ r) × (v ≡ w)
Runs (ask q k) v r w = (a : Answer) × (u : State) × Step v q a u × Runs (k a) u r w

-- at some call of the run the state and the call were so, and no call before it was a Q
abbrev pub During : {R : Type 0} (P : State → Call → Type 0) (Q : Call → Type 0) (s : Script R) (v : State) (r : R) (w : State) → Runs s v r w → Type 0
During P Q (done x) v r w run = ⊥
During P Q (ask q k) v r w (a, u, st, rest) = (P v q) ⊎ ((Q q → ⊥) × During P Q (k a) u r w rest)

-- the state was so at each moment of the run: before the first call, between two calls, and after the last
abbrev pub Throughout : {R : Type 0} (P : State → Type 0) (s : Script R) (v : State) (r : R) (w : State) → Runs s v r w → Type 0
Throughout P (done x) v r w run = P v
Throughout P (ask q k) v r w (a, u, st, rest) = P v × Throughout P (k a) u r w rest
