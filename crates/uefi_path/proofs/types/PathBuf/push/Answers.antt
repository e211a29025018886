use Rattle.std.proofs.Common.{◌≡◌, ◌≤◌, ◌++◌, length, sym, subst, ap, ◌∙◌}
use Rattle.uefi_path.specs.Meaning.{units_of, text_of}
use Rattle.uefi_path.specs.Parents.{turned, pushed}
use Rattle.uefi_path.proofs.Lawful.{pushes_of}
use Rattle.uefi_path.proofs.Pushes.{push_first, push_behind, taken_after}
use Rattle.uefi_path.proofs.types.PathBuf.push.Goals as goal
use Rattle.uefi_path.proofs.types.PathBuf.push.Goals.{After-append, then-not-is_empty+else-remaining_capacity-units, else-not-is_empty}

-- it is pushed as the rules say, behind a separator or alone
text : (c : After-append) → text_of c.append.new.self ≡ pushed (text_of c.args.self.now) (units_of c.args.path.now)
text c =
    let t = text_of c.args.self.now in
    let us = units_of c.args.path.now in
    let some = sym c.if-is_empty.ensures in
    c.append.ensures ∙ elim c.if-not-is_empty.branch [
      | then-not-is_empty+else-remaining_capacity-units w ↦
          ap (λ b. text_of b ++ turned us) w.self-is ∙ ap (λ z. z ++ turned us) w.push.ensures.items
          ∙ push_behind t us some (sym w.if-not-is_empty.ensures) c.args.self.now.slashless
      | else-not-is_empty w ↦ rw w.self-is (push_first t us some (sym w.if-not-is_empty.ensures))
    ]

pub returns-clause-after : goal.returns-clause-after
returns-clause-after c =
    let t = text_of c.args.self.now in
    let us = pushed t (units_of c.args.path.now) in
    text c ∙ sym (taken_after t us (subst (λ vs. length vs ≤ 256) (text c) c.append.new.self.path.short))

pub returns-clause-law : goal.returns-clause-law
returns-clause-law c = pushes_of (text_of c.args.self.now) (units_of c.args.path.now) _ (text c)
