-- The blocks of a file go before the free ones: what the tables then say.
use Rattle.std.proofs.Common.{◌≡◌, ℕ, ◌+◌, ◌-◌, ◌<◌, ◌⊎◌, List, length, get_or, set, sum, sym, refl, ap, ◌∙◌, inl, inr, ⊎_elim, subst, arith}
use Rattle.std.proofs.lemmas.List.{get_or-set_same, get_or-set_other}
use Rattle.std.proofs.lemmas.Bool.{cases_eq, cases_lt}
use Rattle.block_store.specs.declared.types.Chain.{Chain}
use Rattle.block_store.specs.declared.types.File.{File}
use Rattle.block_store.specs.declared.types.Chains.{Chains}
use Rattle.block_store.specs.Places.{placed, held_by}
use Rattle.block_store.specs.Tables.{file_at, table_free, table_file, set_mine, set_free, set_other, set_sum, set_alike}
use Rattle.block_store.specs.Walk.{firsts, helds, lasts, count, walk, block_at, Within, Apart, Tailed}
use Rattle.block_store.specs.Walks.{walk_more, walk_add, walk_same}
use Rattle.block_store.proofs.Pushes.{Came, within_moved, apart_moved, last_is, last_low}

-- where the place (g, k) of the new tables was, if the file f had n blocks
abbrev pub Splice : ℕ → ℕ → ℕ → ℕ → ℕ → ℕ → Type 0
Splice f n g k x y = ((g ≡ 64) × (k < n) × (x ≡ f) × (y ≡ k)) ⊎ (((g ≡ 64) × (x ≡ 64) × (n + y ≡ k)) ⊎ ((g ≡ 64 → ⊥) × (g ≡ f → ⊥) × (x ≡ g) × (y ≡ k)))

splice_once : (f n : ℕ) → f < 64 → (g k h j x y x' y' : ℕ) → Splice f n g k x y → Splice f n h j x' y' → x ≡ x' → y ≡ y' → (g ≡ h) × (k ≡ j)
splice_once f n l g k h j x y x' y' p q e d = (omega arith, omega arith)

-- The free chain begins with the first block of the file f, which has none.
pub record Given (first held first' held' : List ℕ) (f : ℕ) : Type 0 where
  pub front : get_or first' 64 0 ≡ get_or first f 0
  pub heads : (g : ℕ) → (g ≡ 64 → ⊥) → get_or first' g 0 ≡ get_or first g 0
  pub mine : get_or held' f 0 ≡ 0
  pub spare : get_or held' 64 0 ≡ get_or held 64 0 + get_or held f 0
  pub others : (g : ℕ) → (g ≡ f → ⊥) → (g ≡ 64 → ⊥) → get_or held' g 0 ≡ get_or held g 0

-- where the file f is x
module _ (files : List File) (free free' : Chain) (f : ℕ) (x : File) (wide : length files ≡ 64) (file : f < 64)
    (none : x.chain.held ≡ 0) (same : x.chain.first ≡ (file_at files f).chain.first)
    (all : free'.held ≡ free.held + (file_at files f).chain.held) (front : free'.first ≡ (file_at files f).chain.first) where
  pub given : Given (firsts files free) (helds files free) (firsts (set files f x) free') (helds (set files f x) free') f
  given =
      let a = λ (y : File). y.chain.first in
      let h = λ (y : File). y.chain.held in
      let first = table_file a files free.first wide f file in
      record {
        front = set_free a files free.first wide f x free'.first file ∙ front ∙ sym first;
        heads = λ g ne. ⊎_elim
            (λ e. ap (λ i. get_or (firsts (set files f x) free') i 0) e ∙ set_mine a files free.first wide f x free'.first file ∙ same ∙ sym first ∙
            ap (λ i. get_or (firsts files free) i 0) (sym e))
            (λ nf. set_other a files free.first wide f x free'.first file g nf ne)
            (cases_eq g f);
        mine = set_mine h files free.held wide f x free'.held file ∙ none;
        spare = omega (arith, set_free h files free.held wide f x free'.held file, table_free h files free.held wide, table_file h files free.held wide f file);
        others = set_other h files free.held wide f x free'.held file;
      }

  pub given_sum : sum (helds (set files f x) free') ≡ sum (helds files free)
  given_sum = omega (arith, set_sum (λ y. y.chain.held) files free.held wide f x free'.held file)

-- z is the last block of the file
module _ (next first held first' held' : List ℕ) (f z : ℕ) (v : Given first held first' held' f) (file : f < 64) (any : 0 < get_or held f 0)
    (is : z ≡ block_at next first f (get_or held f 0 - 1)) (low : z < length next) (apart : Apart next first held) where
  steps_file : (g k : ℕ) → (g ≡ 64 → ⊥) → k < get_or held g 0 → walk (set next z (get_or first 64 0)) (get_or first g 0) k ≡ block_at next first g k
  steps_file g k ne l =
      walk_same (set next z (get_or first 64 0)) next (get_or first g 0) k
      (λ j h. get_or-set_other next z (walk next (get_or first g 0) j) (get_or first 64 0) 0
      (λ eq. let t = apart (g, j, f, get_or held f 0 - 1) (omega arith, omega arith, eq ∙ is) in omega (arith, t.1, ap (λ x. get_or held x 0) t.0)))

  steps_free : (k : ℕ) → k < get_or held 64 0 → walk (set next z (get_or first 64 0)) (get_or first 64 0) k ≡ block_at next first 64 k
  steps_free k l =
      walk_same (set next z (get_or first 64 0)) next (get_or first 64 0) k
      (λ j h. get_or-set_other next z (walk next (get_or first 64 0) j) (get_or first 64 0) 0
      (λ eq. let t = apart (64, j, f, get_or held f 0 - 1) (omega arith, omega arith, eq ∙ is) in omega (arith, t.0)))

  steps_end : walk (set next z (get_or first 64 0)) (get_or first f 0) (get_or held f 0) ≡ get_or first 64 0
  steps_end =
      let M = set next z (get_or first 64 0) in
      let e : get_or held f 0 ≡ (get_or held f 0 - 1) + 1 = omega arith in
      ap (walk M (get_or first f 0)) e ∙ walk_more M (get_or first f 0) (get_or held f 0 - 1) ∙
      ap (λ x. get_or M x 0) (steps_file f (get_or held f 0 - 1) (λ d. omega arith) (omega arith) ∙ sym is) ∙ get_or-set_same next z (get_or first 64 0) 0 low

  steps_over : (k : ℕ) → k < get_or held 64 0 → walk (set next z (get_or first 64 0)) (get_or first f 0) (get_or held f 0 + k) ≡ block_at next first 64 k
  steps_over k l =
      let M = set next z (get_or first 64 0) in
      walk_add M (get_or first f 0) (get_or held f 0) k ∙ ap (λ x. walk M x k) steps_end ∙ steps_free k l

  pub spliced_kept : (g k : ℕ) → (g ≡ 64 → ⊥) → k < get_or held g 0 → block_at (set next z (get_or first 64 0)) first' g k ≡ block_at next first g k
  spliced_kept g k ne l = ap (λ x. walk (set next z (get_or first 64 0)) x k) (v.heads g ne) ∙ steps_file g k ne l

  come : (g k : ℕ) → k < get_or held' g 0 → Came next first held (set next z (get_or first 64 0)) first' (Splice f (get_or held f 0)) g k
  come g k h =
      let M = set next z (get_or first 64 0) in
      let head = ap (λ x. walk M x k) v.front in
      ⊎_elim
      (λ e. ⊎_elim
      (λ l. record { chain = f; place = k; from = inl (e, l, refl, refl); live = l; same = ap (λ x. block_at M first' x k) e ∙ head ∙ steps_file f k (λ d. omega arith) l })
      (λ l. let r : k - get_or held f 0 < get_or held 64 0 = omega (arith, ap (λ x. get_or held' x 0) e, v.spare) in
      let d : k ≡ get_or held f 0 + (k - get_or held f 0) = omega arith in
      record { chain = 64; place = k - get_or held f 0; from = inr (inl (e, refl, sym d)); live = r; same = ap (λ x. block_at M first' x k) e ∙ head ∙ ap (walk M (get_or first f 0)) d ∙ steps_over (k - get_or held f 0) r })
      (cases_lt k (get_or held f 0)))
      (λ ne. ⊎_elim
      (λ e. absurd (omega (arith, ap (λ x. get_or held' x 0) e, v.mine)))
      (λ nf. let l : k < get_or held g 0 = omega (arith, v.others g nf ne) in
      record { chain = g; place = k; from = inr (inr (ne, nf, refl, refl)); live = l; same = spliced_kept g k ne l })
      (cases_eq g f))
      (cases_eq g 64)

  pub spliced_within : (count : ℕ) → Within next first held count → Within (set next z (get_or first 64 0)) first' held' count
  spliced_within = within_moved next first held (set next z (get_or first 64 0)) first' held' (Splice f (get_or held f 0)) come

  pub spliced_apart : Apart (set next z (get_or first 64 0)) first' held'
  spliced_apart = apart_moved next first held (set next z (get_or first 64 0)) first' held' (Splice f (get_or held f 0)) come (splice_once f (get_or held f 0) file) apart

  pub spliced_tailed : (last : List ℕ) → Tailed next first last held → Tailed (set next z (get_or first 64 0)) first' last held'
  spliced_tailed last t g l some =
      let M = set next z (get_or first 64 0) in
      ⊎_elim
      (λ e. absurd (omega (arith, ap (λ x. get_or held' x 0) e, v.mine)))
      (λ nf. let ne : g ≡ 64 → ⊥ = λ e. omega arith in
      let n = v.others g nf ne in
      let held_some : 0 < get_or held g 0 = omega arith in
      t g l held_some ∙ sym (spliced_kept g (get_or held g 0 - 1) ne (omega arith)) ∙ ap (λ x. block_at M first' g (x - 1)) (sym n))
      (cases_eq g f)

-- the file without its blocks, and the free chain with them
abbrev pub bare : Chains → ℕ → File
bare t f = record (file_at t.files f) { chain = record { first = (file_at t.files f).chain.first; held = 0 } }

abbrev pub joined : Chains → ℕ → Chain
joined t f = record { first = (file_at t.files f).chain.first; held = t.free.held + (file_at t.files f).chain.held }

-- the last block of the file, behind which the free ones go
abbrev pub linked : Chains → ℕ → List ℕ
linked t f = set t.next (file_at t.files f).last t.free.first

module _ (t : Chains) (f : ℕ) (file : f < 64) (some : (file_at t.files f).chain.held ≡ 0 → ⊥) (deep : length t.next ≡ 128) where
  pub freed_given : Given (firsts t.files t.free) (helds t.files t.free) (firsts (set t.files f (bare t f)) (joined t f)) (helds (set t.files f (bare t f)) (joined t f)) f
  freed_given = given t.files t.free (joined t f) f (bare t f) t.wide file refl refl refl refl

  pub freed_sum : sum (helds (set t.files f (bare t f)) (joined t f)) ≡ sum (helds t.files t.free)
  freed_sum = given_sum t.files t.free (joined t f) f (bare t f) t.wide file refl refl refl refl

  any : 0 < held_by t f
  any = omega (arith, table_file (λ y. y.chain.held) t.files t.free.held t.wide f file)

  low : (file_at t.files f).last < length t.next
  low = omega (arith, last_low t f file some)

  front : get_or (firsts t.files t.free) 64 0 ≡ t.free.first
  front = table_free (λ y. y.chain.first) t.files t.free.first t.wide

  pub freed_kept : (g k : ℕ) → (g ≡ 64 → ⊥) → k < held_by t g → block_at (linked t f) (firsts (set t.files f (bare t f)) (joined t f)) g k ≡ placed t g k
  freed_kept g k ne l =
      ap (λ b. block_at (set t.next (file_at t.files f).last b) (firsts (set t.files f (bare t f)) (joined t f)) g k) (sym front) ∙
      spliced_kept t.next (firsts t.files t.free) (helds t.files t.free) _ _ f (file_at t.files f).last freed_given file any (last_is t f file some) low t.apart g k ne l

  pub freed_within : Within (linked t f) (firsts (set t.files f (bare t f)) (joined t f)) (helds (set t.files f (bare t f)) (joined t f)) (count (set t.files f (bare t f)) (joined t f))
  freed_within =
      let P : ℕ → ℕ → Type 0 = λ b n. Within (set t.next (file_at t.files f).last b) (firsts (set t.files f (bare t f)) (joined t f)) (helds (set t.files f (bare t f)) (joined t f)) n in
      subst (P t.free.first) (sym freed_sum) (subst (λ b. P b (count t.files t.free)) front (spliced_within t.next (firsts t.files t.free) (helds t.files t.free) _ _ f (file_at t.files f).last freed_given file any (last_is t f file some) low t.apart (count t.files t.free) t.within))

  pub freed_apart : Apart (linked t f) (firsts (set t.files f (bare t f)) (joined t f)) (helds (set t.files f (bare t f)) (joined t f))
  freed_apart =
      let P : ℕ → Type 0 = λ b. Apart (set t.next (file_at t.files f).last b) (firsts (set t.files f (bare t f)) (joined t f)) (helds (set t.files f (bare t f)) (joined t f)) in
      subst P front (spliced_apart t.next (firsts t.files t.free) (helds t.files t.free) _ _ f (file_at t.files f).last freed_given file any (last_is t f file some) low t.apart)

  pub freed_tailed : Tailed (linked t f) (firsts (set t.files f (bare t f)) (joined t f)) (lasts (set t.files f (bare t f))) (helds (set t.files f (bare t f)) (joined t f))
  freed_tailed =
      let P : ℕ → List ℕ → Type 0 = λ b l. Tailed (set t.next (file_at t.files f).last b) (firsts (set t.files f (bare t f)) (joined t f)) l (helds (set t.files f (bare t f)) (joined t f)) in
      subst (λ b. P b (lasts (set t.files f (bare t f)))) front (subst (P (get_or (firsts t.files t.free) 64 0)) (sym (set_alike (λ y. y.last) t.files f (bare t f) (omega (arith, t.wide)) refl))
      (spliced_tailed t.next (firsts t.files t.free) (helds t.files t.free) _ _ f (file_at t.files f).last freed_given file any (last_is t f file some) low t.apart (lasts t.files) t.tailed))
