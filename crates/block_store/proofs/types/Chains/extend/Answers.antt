use Rattle.std.proofs.Common.{◌≡◌, length, get_or, ap, ◌∙◌, inl, inr, arith}
use Rattle.std.proofs.lemmas.List.{length-set}
use Rattle.block_store.specs.Tables.{file_at, table_free, table_file}
use Rattle.block_store.specs.Wholes.{held_small}
use Rattle.block_store.proofs.Pushes.{Linked, apart_pushed, last_low, pushed, pushed_sum, pushed_sizes, pushed_within, pushed_tailed}
use Rattle.block_store.proofs.types.Chains.extend.Goals as goal
use Rattle.block_store.proofs.types.Chains.extend.Goals.{Joined-file-eq0, then-file-eq0, else-file-eq0}

linked : (c : Joined-file-eq0) → Linked c.args.self.now.next c.if-file-eq0.self.1.0 (file_at c.args.self.now.files c.args.slot.index) c.if-file-eq0.file c.args.self.now.free.first
linked c =
    elim c.if-file-eq0.branch [
      | then-file-eq0 w ↦ (ap (λ x. x.chain.held) w.file-is, ap (λ x. x.size) w.file-is, inl (w.if-file-eq0.true, ap (λ s. s.1.0) w.self-is, ap (λ x. x.chain.first) w.file-is))
      | else-file-eq0 w ↦ (ap (λ x. x.chain.held) w.file-is, ap (λ x. x.size) w.file-is, inr (w.if-file-eq0.false, ap (λ s. s.1.0) w.self-is, ap (λ x. x.chain.first) w.file-is))
    ]

pub bounds-self-block : goal.bounds-self-block
bounds-self-block c =
    let t = c.args.self.now in
    omega (arith, t.within 64 0 c.requires, t.few, table_free (λ y. y.chain.first) t.files t.free.first t.wide)

pub bounds-self-file : goal.bounds-self-file
bounds-self-file c = last_low c.args.self.now c.args.slot.index c.args.slot.within c.if-file-eq0.false

pub overflow_add-file : goal.overflow_add-file
overflow_add-file c =
    let t = c.args.self.now in
    let f = c.args.slot.index in
    let l = linked (goal.at.overflow_add-file c).Joined-file-eq0 in
    omega (arith, l.0, held_small t f, table_file (λ y. y.chain.held) t.files t.free.held t.wide f c.args.slot.within)

pub invariant_of-self : goal.invariant_of-self
invariant_of-self c =
    let t = c.args.self.now in
    let f = c.args.slot.index in
    let file = c.args.slot.within in
    let y = c.if-file-eq0.file in
    let next' = c.if-file-eq0.self.1.0 in
    let deep : length t.next ≡ 128 = omega arith in
    let l = linked (goal.at.invariant_of-self c).Joined-file-eq0 in
    let total = pushed_sum t f y next' file c.requires deep l in
    record {
      wide = length-set t.files f _ ∙ t.wide;
      some = omega (arith, total, t.some);
      few = omega (arith, total, t.few);
      within = pushed_within t f y next' file c.requires deep l;
      apart = apart_pushed _ _ _ _ _ _ f (pushed t f y next' file c.requires deep l) file t.apart;
      tailed = pushed_tailed t f y next' file c.requires deep l;
    }

pub returns : goal.returns
returns c =
    let t = c.args.self.now in
    let f = c.args.slot.index in
    let file = c.args.slot.within in
    let y = c.if-file-eq0.file in
    let next' = c.if-file-eq0.self.1.0 in
    let deep : length t.next ≡ 128 = omega arith in
    let l = linked (goal.at.returns c).Joined-file-eq0 in
    let p = pushed t f y next' file c.requires deep l in
    record {
      kept = λ g k h l. p.kept g k (λ d. omega arith) l;
      mine = p.mine;
      others = λ g h ne. p.others g ne (λ d. omega arith);
      spare = p.spare;
      lengths = λ g. ap (λ s. get_or s g 0) (pushed_sizes t f y next' file c.requires deep l);
      same = pushed_sum t f y next' file c.requires deep l;
    }
