-- A refusal as every answer of the layer gives it: its number and the values that come with it.
use Rattle.std.specs.Prelude.{ℕ, List, Some, None, Ok, Err, Option, Result}

pub record Refusal : Type 0 where
  pub number : ℕ
  pub values : List ℕ

-- the refusal of an answer, where its errors are numbered so; none if it was accepted
abbrev pub refusal_of : {X E : Type 0} → (E → Refusal) → Result X E → Option Refusal
refusal_of numbered (Ok x) = None
refusal_of numbered (Err e) = Some (numbered e)
