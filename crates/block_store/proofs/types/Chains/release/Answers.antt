use Rattle.std.proofs.Common.{◌≡◌, length, get_or, refl, ap, ◌∙◌, arith}
use Rattle.std.proofs.lemmas.List.{length-set}
use Rattle.block_store.specs.Tables.{table_free, table_file, set_alike}
use Rattle.block_store.specs.Wholes.{held_small}
use Rattle.block_store.proofs.Pushes.{last_low}
use Rattle.block_store.proofs.Splices.{bare, freed_given, freed_sum, freed_kept, freed_within, freed_apart, freed_tailed}
use Rattle.block_store.proofs.types.Chains.release.Goals as goal

pub bounds-self-file : goal.bounds-self-file
bounds-self-file c = last_low c.args.self.now c.args.slot.index c.args.slot.within (λ e. omega arith)

pub overflow_add-self : goal.overflow_add-self
overflow_add-self c =
    let t = c.args.self.now in
    let f = c.args.slot.index in
    omega (arith, held_small t f, held_small t 64, table_free (λ y. y.chain.held) t.files t.free.held t.wide, table_file (λ y. y.chain.held) t.files t.free.held t.wide f c.args.slot.within)

pub invariant_of-self : goal.invariant_of-self
invariant_of-self c =
    let t = c.args.self.now in
    let f = c.args.slot.index in
    let file = c.args.slot.within in
    let deep : length t.next ≡ 128 = omega arith in
    let total = freed_sum t f file (λ e. omega arith) deep in
    record {
      wide = length-set t.files f _ ∙ t.wide;
      some = omega (arith, total, t.some);
      few = omega (arith, total, t.few);
      within = freed_within t f file (λ e. omega arith) deep;
      apart = freed_apart t f file (λ e. omega arith) deep;
      tailed = freed_tailed t f file (λ e. omega arith) deep;
    }

pub returns-then-has_blocks : goal.returns-then-has_blocks
returns-then-has_blocks c =
    let t = c.args.self.now in
    let f = c.args.slot.index in
    let file = c.args.slot.within in
    let deep : length t.next ≡ 128 = omega arith in
    let v = freed_given t f file (λ e. omega arith) deep in
    record {
      kept = λ g k h ne l. freed_kept t f file (λ e. omega arith) deep g k (λ e. omega arith) l;
      mine = v.mine;
      others = λ g h ne. v.others g ne (λ e. omega arith);
      spare = v.spare;
      lengths = λ g. ap (λ l. get_or l g 0) (set_alike (λ x. x.size) t.files f (bare t f) (omega (arith, t.wide)) refl);
      same = freed_sum t f file (λ e. omega arith) deep;
    }
