use Rattle.std.proofs.Common.{◌≡◌, ℕ, ◌+◌, ◌-◌, ◌<◌, ◌≤◌, Option, Some, None, List, false, sym, refl, ap, ◌∙◌, length, get_or, take, drop, arith}
use Rattle.std.proofs.lemmas.List.{take_rest, length-drop, get_or-drop, get_or_default}
use Rattle.std.proofs.lemmas.Option.{none-some, same_Some}
use Rattle.ram_tables.specs.Tables.{row, Says}
use Rattle.ram_tables.proofs.Grids.{row_in, rows_more}
use Rattle.ram_tables.proofs.table.Table.find.Goals as goal

-- a row counted from the first one looked at
at_rest : {A : Type 0} (xs : List (Option A)) (s k : ℕ) (d : Option A) → let rest = take (length xs - s) (drop s xs) in k < length rest → row xs (s + k) ≡ get_or rest k d
at_rest xs s k d h = sym (get_or-drop s xs k None) ∙ ap (λ l. get_or l k None) (sym (take_rest xs s)) ∙ get_or_default (take (length xs - s) (drop s xs)) k None d h

pub loop-k-init : goal.loop-k-init
loop-k-init g c = λ m x l e f. absurd (omega arith)

pub loop-k-preserved-in_default : goal.loop-k-preserved-in_default
loop-k-preserved-in_default g c =
    let n = c.min-start.result + c.loop-k.k in
    let e : row c.args.self.now n ≡ None = rw (← c.self.view_is) (at_rest c.self.inside.rows c.min-start.result c.loop-k.k c.row-item.result c.loop-k-test.true ∙ sym c.row-item.is ∙ c.in_default.is) in
    λ m x l. rows_more c.args.self.now (λ m x. c.args.first ≤ m → Says g.F.Fn c.args.test m x false) n c.loop-k.invariant (λ x h. absurd (none-some x (sym e ∙ h))) m x (omega arith)

pub loop-k-preserved : goal.loop-k-preserved
loop-k-preserved g c =
    let n = c.min-start.result + c.loop-k.k in
    let e : row c.args.self.now n ≡ Some c.in-Some.row = rw (← c.self.view_is) (at_rest c.self.inside.rows c.min-start.result c.loop-k.k c.row-item.result c.loop-k-test.true ∙ sym c.row-item.is ∙ c.in-Some.is) in
    λ m x l. rows_more c.args.self.now (λ m x. c.args.first ≤ m → Says g.F.Fn c.args.test m x false) n c.loop-k.invariant (λ x h _. (_, same_Some c.in-Some.row x (sym e ∙ h), record { met = c.if-test.ensures })) m x (omega arith)

pub returns-then-test : goal.returns-then-test
returns-then-test g c =
    let n = c.min-start.result + c.loop-k.k in
    let e : row c.args.self.now n ≡ Some c.in-Some.row = rw (← c.self.view_is) (at_rest c.self.inside.rows c.min-start.result c.loop-k.k c.row-item.result c.loop-k-test.true ∙ sym c.row-item.is ∙ c.in-Some.is) in
    ((c.in-Some.row, e, (omega (arith, row_in c.args.self.now n c.in-Some.row e, ap length c.self.view_is, c.self.told, c.min-start.ensures), (_, refl, record { met = c.if-test.ensures }))), c.loop-k.invariant)

pub returns : goal.returns
returns g c = λ k x e. c.loop-k.invariant k x (omega (arith, row_in c.args.self.now k x e, ap length c.self.view_is, ap length (take_rest c.self.inside.rows c.min-start.result), length-drop c.min-start.result c.self.inside.rows)) e
