use Rattle.std.proofs.Common.{◌-◌, length, drop, arith}
use Rattle.std.proofs.lemmas.List.{length-take, length-drop}
use Rattle.uefi_path.proofs.Pieces.{next_from}
use Rattle.uefi_path.proofs.units.component_at.Goals as goal

pub returns : goal.returns
returns c =
    let us = c.args.text.now in
    let from = c.args.from in
    record {
      end = omega (arith, c.before_separator.ensures.within, length-take (length us - from) (drop from us), length-drop from us);
      parts = next_from us from c.before_separator.result c.if-from-text.false c.before_separator.ensures.first;
    }
