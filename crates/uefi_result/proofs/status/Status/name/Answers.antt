use Rattle.std.proofs.Common.{rules, ◌≡◌, ℕ, Bool, true, false, cond, List, [], ◌∷◌, map, Option, Some, Bor, refl, sym, ap, ◌∙◌, eqb}
use borrow.Author.Tests.{tests}
use Rattle.std.specs.Prelude.{find}
use Rattle.std.specs.Option.{option_map}
use Rattle.std.proofs.lemmas.Iterator.{YieldsList-from_slice}
use Rattle.std.proofs.lemmas.Iterator.Search.{find_from_yields_List}
use Rattle.uefi_result.specs.StatusCodes.{appendix_d}
use Rattle.uefi_result.specs.declared.status.Status.{Status}
use Rattle.uefi_result.proofs.status.Status.name.Goals as goal

-- a row as the specification's table has it
abbrev as_row : Status × Bor (List ℕ) → ℕ × List ℕ
as_row row = (row.0.0, row.1.now)

module _ {X Y : Type 0} (f : X → Y) (p : Y → Bool) where
  found : (b : Bool) (x : X) (rest : Option X) → cond b (Some (f x)) (option_map f rest) ≡ option_map f (cond b (Some x) rest)
  found true x rest = refl
  found false x rest = refl

  find_map : (xs : List X) → find p (map f xs) ≡ option_map f (find (λ x. p (f x)) xs)
  find_map [] = refl
  find_map (x ∷ xs) = ap (cond (p (f x)) (Some (f x))) (find_map xs) ∙ found (p (f x)) x (find (λ y. p (f y)) xs)

pub returns : goal.returns
unfolding appendix_d
returns c =
    let n = c.args.self.0 in
    let rows = c.iter.result.rest.now in
    let test : Status × Bor (List ℕ) → Bool = λ row. eqb row.0.0 n in
    let hit = find_from_yields_List test _ _ c.find.result c.find.ensures.ran (YieldsList-from_slice rows cc) (λ x b q k. search (rules, tests)) in
    let table : map as_row rows ≡ appendix_d = ap (map as_row) c.iter.ensures.rest in
    let named : find (λ row. eqb row.0 n) appendix_d ≡ option_map as_row (find test rows) = ap (find (λ row. eqb row.0 n)) (sym table) ∙ find_map as_row (λ row. eqb row.0 n) rows in
    let cases = c.map.ensures.cases in
    sym (ap (option_map (λ row. row.1)) (named ∙ ap (option_map as_row) (sym hit)) ∙ search rules)
