use Rattle.std.proofs.Common.{Some, None, ltb, ◌≡◌, ℕ, not, arith, List, length, sym, subst, ap, ◌∙◌}
use Rattle.std.specs.List.{position_or_len}
use Rattle.std.proofs.lemmas.List.{take_all}
use Rattle.std.proofs.lemmas.List.Sums.{passes_at_first}
use Rattle.std.proofs.lemmas.Bool.{cond_both, not-true, ltb-true, ltb-false}
use Rattle.uefi_types.specs.Units.{text_unit, is_text, first_bad, FirstBad}
use Rattle.uefi_types.proofs.Tested.{all_before}
use Rattle.uefi_types.proofs.chars.first_bad_unit.Goals as goal

module _ (us : List ℕ) where
  abbrev n : ℕ
  n = position_or_len (λ u. not (text_unit u)) us

  is_first : FirstBad us (first_bad us)
  is_first =
      cond_both (ltb n (length us)) (Some n) None (FirstBad us)
      (λ e. let l = ltb-true _ _ e in (l, all_before text_unit us, not-true _ (passes_at_first (λ u. not (text_unit u)) us 0 l)))
      (λ e. ap is_text (sym (take_all n us (ltb-false _ _ e))) ∙ all_before text_unit us)

pub returns : goal.returns
returns c =
    let us = c.args.units.now in
    let value : c.bad_from.result ≡ first_bad us = c.bad_from.ensures.front (grind arith) in
    record { value = value; law = subst (FirstBad us) (sym value) (is_first us) }
