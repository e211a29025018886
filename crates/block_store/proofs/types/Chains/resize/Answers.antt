use Rattle.std.proofs.Common.{sum, slice_index, ap, ◌∙◌, arith}
use Rattle.std.proofs.lemmas.List.{length-set}
use Rattle.block_store.specs.Walk.{walk}
use Rattle.block_store.proofs.Resizes.{resized_firsts, resized_helds, resized_mine, resized_others, resized_within, resized_apart, resized_tailed}
use Rattle.block_store.proofs.types.Chains.resize.Goals as goal

pub invariant_of-self : goal.invariant_of-self
invariant_of-self c =
    let t = c.args.self.now in
    let f = c.args.slot.index in
    let total = ap sum (resized_helds t f c.args.size c.args.slot.within) in
    record {
      wide = length-set t.files f _ ∙ t.wide;
      some = omega (arith, total, t.some);
      few = omega (arith, total, t.few);
      within = resized_within t f c.args.size c.args.slot.within;
      apart = resized_apart t f c.args.size c.args.slot.within;
      tailed = resized_tailed t f c.args.size c.args.slot.within;
    }

pub returns : goal.returns
returns c =
    let t = c.args.self.now in
    let f = c.args.slot.index in
    record {
      kept = λ g k. ap (λ l. walk t.next (slice_index l g) k) (resized_firsts t f c.args.size c.args.slot.within);
      counts = λ g. ap (λ l. slice_index l g) (resized_helds t f c.args.size c.args.slot.within);
      mine = resized_mine t f c.args.size c.args.slot.within;
      others = resized_others t f c.args.size c.args.slot.within;
      same = ap sum (resized_helds t f c.args.size c.args.slot.within);
    }
