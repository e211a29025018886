use Rattle.std.proofs.Common.{◌≡◌, ◌-◌, ◌++◌, length, ap, ◌∙◌, arith}
use Rattle.std.proofs.lemmas.List.{length-append, length-map}
use Rattle.std.specs.List.{refill, list_all}
use borrow.Rule.Slice.PartMut.{put_mid}
use Rattle.uefi_types.specs.Units.{text_unit, is_text}
use Rattle.uefi_types.proofs.Tested.{all_append}
use Rattle.uefi_path.specs.Meaning.{units_of, text_of}
use Rattle.uefi_path.specs.Parents.{turn, turned, no_slash}
use Rattle.uefi_path.proofs.Slashes.{turned_text, turned_slashless, turned_behind}
use Rattle.uefi_path.proofs.types.PathBuf.append.Goals as goal
use Rattle.uefi_path.proofs.types.PathBuf.append.Goals.{After-turn_slashes}

-- the text, and the path behind it with each `/` turned
after : (c : After-turn_slashes) → refill (length c.try_extend_from_slice.new.self.items) c.try_extend_from_slice.new.self.items
    (put_mid c.len-end.result (length c.as_mut_slice.result.now - c.len-end.result) c.as_mut_slice.result.now c.turn_slashes.new.units)
    ≡ text_of c.args.self.now ++ turned (units_of c.args.path.now)
after c =
    let ok = c.try_extend_from_slice.ensures.ok in
    let all = (rw c.unwrap.ensures at ok) ∙ ap (λ us. text_of c.args.self.now ++ us) c.units.ensures.value in
    turned_behind (text_of c.args.self.now) (units_of c.args.path.now) _ _ c.turn_slashes.new.units c.len-end.result all c.as_mut_slice.ensures.value c.len-end.ensures.value c.turn_slashes.ensures

pub invariant_of-self-2 : goal.invariant_of-self-2
invariant_of-self-2 c =
    let b = c.args.self.now in
    let us = units_of c.args.path.now in
    let is = after (goal.at.invariant_of-self-2 c).After-turn_slashes in (
      (
        omega (arith, ap length is, length-append (text_of b) (turned us), length-map us turn, c.requires),
        (ap is_text is ∙ all_append text_unit (text_of b) (turned us) b.path.text (turned_text us c.args.path.now.text), tt),
      ),
      (ap (list_all no_slash) is ∙ all_append no_slash (text_of b) (turned us) b.slashless (turned_slashless us), tt),
    )

pub returns : goal.returns
returns c = after (goal.at.returns c).After-turn_slashes
