use Rattle.std.proofs.Common.{◌≡◌, ◌<◌, ◌+◌, ℕ, get_or, refl, arith, rules}
use Rattle.block_store.proofs.Starts.{is_empty, new_sizes, new_count, new_other, new_tailed, new_within, new_apart}
use Rattle.block_store.proofs.types.Chains.new.Goals as goal

pub invariant_of-result : goal.invariant_of-result
invariant_of-result c =
    let n = c.args.count in
    let next = c.from_fn.result in
    let x = c.default.result in
    let is = is_empty x c.default.ensures in
    let h : (k : ℕ) → k + 1 < n → get_or next k 0 ≡ k + 1 = λ k l. let one = (c.from_fn.ensures.items.at k 0 (omega arith)).2 in search rules in
    let all = new_count x is n in
    record {
      wide = refl;
      some = omega (arith, all, c.requires.some);
      few = omega (arith, all, c.requires.few);
      within = new_within x is n next h;
      apart = new_apart x is n next h;
      tailed = new_tailed x is n next;
    }

pub returns : goal.returns
returns c =
    let x = c.default.result in
    let is = is_empty x c.default.ensures in
    record { files = λ g l. new_other x is c.args.count g (λ e. omega arith); spare = refl; lengths = new_sizes x is; same = new_count x is c.args.count }
