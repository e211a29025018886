use Rattle.std.proofs.Common.{Bool, not, ◌&&◌, sym, ap, ◌∙◌, inl, inr, arith}
use Rattle.volume.specs.Tree.{is_dots}
use Rattle.ram_tables.proofs.Naming.{nameable_by, not_nameable}
use Rattle.ram_tables.proofs.names.is_name.Goals as goal

pub returns-then-len-eq0 : goal.returns-then-len-eq0
returns-then-len-eq0 c = sym (not_nameable c.args.name.now (elim c.then-len-eq0.either [ inl h ↦ inl (omega arith) | inr h ↦ inr h.1 ]))

pub returns-then-are_allowed : goal.returns-then-are_allowed
returns-then-are_allowed c =
    let name = c.args.name.now in
    ap not c.is_dots.ensures ∙ sym (nameable_by name (omega arith) (omega arith) ∙ ap (λ (b : Bool). b && not (is_dots name)) (sym c.if-are_allowed.ensures))

pub returns-else-are_allowed : goal.returns-else-are_allowed
returns-else-are_allowed c =
    let name = c.args.name.now in
    c.if-are_allowed.false ∙ sym (nameable_by name (omega arith) (omega arith) ∙ ap (λ (b : Bool). b && not (is_dots name)) (sym c.if-are_allowed.ensures))
