-- The tables of a new store: each block names the one after it, all of them are free, and each file is x, which has none.
use Rattle.std.proofs.Common.{◌≡◌, ℕ, zero, suc, ◌+◌, ◌<◌, get_or, replicate, List, refl, ap, ◌∙◌, ⊎_elim, add-one, zero-add, arith}
use Rattle.std.proofs.lemmas.List.{get_or-map, get_or-replicate, get_or_past}
use Rattle.std.proofs.lemmas.Bool.{cases_eq, cases_lt}
use Rattle.block_store.specs.declared.types.Chain.{Chain}
use Rattle.block_store.specs.declared.types.File.{File}
use Rattle.block_store.specs.Tables.{empty, table_free, table_file}
use Rattle.block_store.specs.Walk.{firsts, helds, lasts, sizes, count, walk, block_at, Within, Apart, Tailed}

walk_count : (next : List ℕ) (n : ℕ) → ((k : ℕ) → k + 1 < n → get_or next k 0 ≡ k + 1) → (k : ℕ) → k < n → walk next 0 k ≡ k
walk_count next n h zero l = refl
walk_count next n h (suc k) l = ap (λ x. get_or next x 0) (walk_count next n h k (omega arith)) ∙ h k (omega arith) ∙ add-one k

abbrev pub all : ℕ → Chain
all n = record { first = 0; held = n }

abbrev made : ℕ → ℕ → ℕ → ℕ → File
made first held last size = record { chain = record { first = first; held = held }; last = last; size = size }

pub is_empty : (x : File) → ((x.chain.first ≡ 0) × (x.chain.held ≡ 0)) × ((x.last ≡ 0) × (x.size ≡ 0)) → x ≡ empty
is_empty x h = ap (λ n. made n x.chain.held x.last x.size) h.0.0 ∙ ap (λ n. made 0 n x.last x.size) h.0.1 ∙ ap (λ n. made 0 0 n x.size) h.1.0 ∙ ap (made 0 0 0) h.1.1

module _ (x : File) (is : x ≡ empty) where
  pub new_sizes : (f : ℕ) → get_or (sizes (replicate 64 x)) f 0 ≡ 0
  new_sizes f =
      ⊎_elim
      (λ l. get_or-map (λ (y : File). y.size) (replicate 64 x) f empty 0 l ∙ ap (λ (y : File). y.size) (get_or-replicate 64 f x empty l ∙ is))
      (λ l. get_or_past (sizes (replicate 64 x)) f 0 l)
      (cases_lt f 64)

  module _ (n : ℕ) where
    pub new_count : count (replicate 64 x) (all n) ≡ n
    new_count = ap (λ y. count (replicate 64 y) (all n)) is ∙ zero-add n

    pub new_other : (f : ℕ) → (f ≡ 64 → ⊥) → get_or (helds (replicate 64 x) (all n)) f 0 ≡ 0
    new_other f ne =
        ⊎_elim
        (λ l. table_file (λ y. y.chain.held) (replicate 64 x) n refl f l ∙ ap (λ (y : File). y.chain.held) (get_or-replicate 64 f x empty l ∙ is))
        (λ l. get_or_past (helds (replicate 64 x) (all n)) f 0 (omega arith))
        (cases_lt f 64)

    only : (f k : ℕ) → k < get_or (helds (replicate 64 x) (all n)) f 0 → (f ≡ 64) × (k < n)
    only f k l =
        ⊎_elim (λ e. (e, omega (arith, ap (λ g. get_or (helds (replicate 64 x) (all n)) g 0) e, table_free (λ y. y.chain.held) (replicate 64 x) n refl)))
        (λ ne. absurd (omega (arith, new_other f ne)))
        (cases_eq f 64)

    pub new_tailed : (next : List ℕ) → Tailed next (firsts (replicate 64 x) (all n)) (lasts (replicate 64 x)) (helds (replicate 64 x) (all n))
    new_tailed next f l some = let o = only f 0 some in absurd (omega arith)

    module _ (next : List ℕ) (h : (k : ℕ) → k + 1 < n → get_or next k 0 ≡ k + 1) where
      new_at : (f k : ℕ) → k < get_or (helds (replicate 64 x) (all n)) f 0 → block_at next (firsts (replicate 64 x) (all n)) f k ≡ k
      new_at f k l = let o = only f k l in ap (λ g. block_at next (firsts (replicate 64 x) (all n)) g k) o.0 ∙ walk_count next n h k o.1

      pub new_within : Within next (firsts (replicate 64 x) (all n)) (helds (replicate 64 x) (all n)) (count (replicate 64 x) (all n))
      new_within f k l = let o = only f k l in omega (arith, new_at f k l, new_count)

      pub new_apart : Apart next (firsts (replicate 64 x) (all n)) (helds (replicate 64 x) (all n))
      new_apart t p =
          let a = only t.0 t.1 p.0 in
          let b = only t.2 t.3 p.1 in
          (omega arith, omega (arith, new_at t.0 t.1 p.0, new_at t.2 t.3 p.1, p.2))
