use Rattle.std.proofs.Common.{rules, Some, None, ◌≡◌, ℕ, ◌+◌, zero-add, not, List, drop, Option, sym, subst, refl, ap, ◌∙◌}
use borrow.Author.Tests.{tests}
use Rattle.std.specs.Option.{option_map}
use Rattle.std.proofs.lemmas.List.{take_rest}
use Rattle.std.proofs.lemmas.Iterator.{YieldsList-from_slice}
use Rattle.std.proofs.lemmas.Iterator.Search.{position_from_yields_List}
use Rattle.uefi_types.specs.Units.{text_unit, first_bad}
use Rattle.uefi_types.proofs.chars.bad_from.Goals as goal
use Rattle.uefi_types.proofs.chars.bad_from.Goals.{After-position}

found : (c : After-position) → c.position.result ≡ first_bad (drop c.args.first c.args.units.now)
found c =
    position_from_yields_List (λ u. not (text_unit u)) _ _ c.position.result c.position.ensures.ran (YieldsList-from_slice (drop c.args.first c.args.units.now) (c.iter.ensures.rest ∙ take_rest c.args.units.now c.args.first)) (λ x b q k. search (rules, tests))

-- places from the front are places
whole : (at : ℕ) (us : List ℕ) → at ≡ 0 → option_map (λ k. at + k) (first_bad (drop at us)) ≡ first_bad us
whole at us e = subst (λ n. option_map (λ k. n + k) (first_bad (drop n us)) ≡ first_bad us) (sym e) (by (first_bad us))
  where
    by : (o : Option ℕ) → option_map (λ k. 0 + k) o ≡ o
    by (Some k) = ap Some (zero-add k)
    by None = refl

pub returns-in-Some : goal.returns-in-Some
returns-in-Some c =
    let value = ap (option_map (λ at. c.args.first + at)) (sym c.in-Some.is ∙ found (goal.at.returns-in-Some c).After-position) in
    record { value = value; front = λ e. value ∙ whole c.args.first c.args.units.now e }

pub returns-in-None : goal.returns-in-None
returns-in-None c =
    let value = ap (option_map (λ at. c.args.first + at)) (sym c.in-None.is ∙ found (goal.at.returns-in-None c).After-position) in
    record { value = value; front = λ e. value ∙ whole c.args.first c.args.units.now e }
