use Rattle.std.proofs.Common.{eqb, inl, refl, rules, tests, ◌∙◌, arith}
use Rattle.std.proofs.lemmas.Iterator.Consumers.{YieldsList-from_first}
use Rattle.std.proofs.lemmas.Iterator.Search.{position_from_yields_List}
use Rattle.uefi_info.specs.Names.{units_left}
use Rattle.uefi_info.specs.Records.{units_of}
use Rattle.uefi_info.proofs.UnitLists.{units_length, nul_position, nul_bound}
use Rattle.uefi_info.proofs.name.name_len.Goals as goal

pub position-requires-clause-fits : goal.position-requires-clause-fits
position-requires-clause-fits c = inl (omega (arith, units_length c.args.bytes.now))

pub returns-clause-value : goal.returns-clause-value
returns-clause-value c =
    let bs = c.args.bytes.now in
    position_from_yields_List (λ u. eqb u 0) c.position.new.self _ c.position.result c.position.ensures.ran
    (YieldsList-from_first (λ u. u) units_left (units_of bs) refl) (λ x b q k. search (rules, tests)) ∙
    nul_position bs

pub returns-clause-bound : goal.returns-clause-bound
returns-clause-bound c = nul_bound c.args.bytes.now c.position.result c.position.ensures.bound
