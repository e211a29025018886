-- One free block goes to the end of a file's chain: what the tables then say.
use Rattle.std.proofs.Common.{◌≡◌, ℕ, suc, ◌+◌, ◌-◌, ◌<◌, ◌⊎◌, List, length, get_or, set, sum, sym, refl, ap, ◌∙◌, subst, inl, inr, ⊎_elim, arith}
use Rattle.std.proofs.lemmas.List.{get_or-set_same, get_or-set_other, get_or-map, map-set, length-map}
use Rattle.std.proofs.lemmas.Bool.{cases_eq}
use Rattle.block_store.specs.declared.types.Chain.{Chain}
use Rattle.block_store.specs.declared.types.File.{File}
use Rattle.block_store.specs.Walk.{firsts, helds, lasts, sizes, count, walk, block_at, Within, Apart, Tailed}
use Rattle.block_store.specs.declared.types.Chains.{Chains}
use Rattle.block_store.specs.Places.{placed, held_by}
use Rattle.block_store.specs.Tables.{empty, file_at, table_free, table_file, set_mine, set_free, set_other, set_sum, set_alike}
use Rattle.block_store.specs.Walks.{walk_more, walk_shift, walk_same}

-- Each place (g, k) of the new tables comes from a place of the old.
pub record Came (next first held next' first' : List ℕ) (From : ℕ → ℕ → ℕ → ℕ → Type 0) (g k : ℕ) : Type 0 where
  pub chain : ℕ
  pub place : ℕ
  pub from : From g k chain place
  pub live : place < get_or held chain 0
  pub same : block_at next' first' g k ≡ block_at next first chain place

module _ (next first held next' first' held' : List ℕ) (From : ℕ → ℕ → ℕ → ℕ → Type 0) (come : (g k : ℕ) → k < get_or held' g 0 → Came next first held next' first' From g k) where
  pub within_moved : (count : ℕ) → Within next first held count → Within next' first' held' count
  within_moved count w g k h = let u = come g k h in let b = w u.chain u.place u.live in omega (arith, u.same)

  pub apart_moved : ((g k h j x y x' y' : ℕ) → From g k x y → From h j x' y' → x ≡ x' → y ≡ y' → (g ≡ h) × (k ≡ j)) → Apart next first held → Apart next' first' held'
  apart_moved once a t h =
      let u = come t.0 t.1 h.0 in
      let v = come t.2 t.3 h.1 in
      let s = a (u.chain, u.place, v.chain, v.place) (u.live, v.live, sym u.same ∙ h.2 ∙ v.same) in
      once t.0 t.1 t.2 t.3 u.chain u.place v.chain v.place u.from v.from s.0 s.1

-- The file f has the first free block at its end, and the free chain the rest.
pub record Pushed (next first held next' first' held' : List ℕ) (f : ℕ) : Type 0 where
  pub kept : (g k : ℕ) → (g ≡ 64 → ⊥) → k < get_or held g 0 → block_at next' first' g k ≡ block_at next first g k
  pub end : block_at next' first' f (get_or held f 0) ≡ block_at next first 64 0
  pub rest : (k : ℕ) → suc k < get_or held 64 0 → block_at next' first' 64 k ≡ block_at next first 64 (suc k)
  pub mine : get_or held' f 0 ≡ get_or held f 0 + 1
  pub spare : get_or held' 64 0 + 1 ≡ get_or held 64 0
  pub others : (g : ℕ) → (g ≡ f → ⊥) → (g ≡ 64 → ⊥) → get_or held' g 0 ≡ get_or held g 0

-- where the place (g, k) of the new tables was
abbrev pub Push : ℕ → ℕ → ℕ → ℕ → ℕ → ℕ → Type 0
Push f n g k x y = ((g ≡ 64) × (x ≡ 64) × (y ≡ suc k)) ⊎ (((g ≡ f) × (k ≡ n) × (x ≡ 64) × (y ≡ 0)) ⊎ ((g ≡ 64 → ⊥) × (x ≡ g) × (y ≡ k)))

push_once : (f n : ℕ) (g k h j x y x' y' : ℕ) → Push f n g k x y → Push f n h j x' y' → x ≡ x' → y ≡ y' → (g ≡ h) × (k ≡ j)
push_once f n g k h j x y x' y' p q e d = (omega arith, omega arith)

module _ (next first held next' first' held' : List ℕ) (f : ℕ) (p : Pushed next first held next' first' held' f) (file : f < 64) where
  come : (g k : ℕ) → k < get_or held' g 0 → Came next first held next' first' (Push f (get_or held f 0)) g k
  come g k h =
      ⊎_elim
      (λ e. let r : suc k < get_or held 64 0 = omega (arith, ap (λ x. get_or held' x 0) e, p.spare) in
      record { chain = 64; place = suc k; from = inl (e, refl, refl); live = r; same = ap (λ x. block_at next' first' x k) e ∙ p.rest k r })
      (λ ne. ⊎_elim
      (λ e. ⊎_elim
      (λ d. record { chain = 64; place = 0; from = inr (inl (e, d, refl, refl)); live = omega (arith, p.spare); same = ap (λ x. block_at next' first' x k) e ∙ ap (block_at next' first' f) d ∙ p.end })
      (λ nd. let l : k < get_or held g 0 = omega (arith, ap (λ x. get_or held' x 0) e, ap (λ x. get_or held x 0) e, p.mine) in
      record { chain = g; place = k; from = inr (inr (ne, refl, refl)); live = l; same = p.kept g k ne l })
      (cases_eq k (get_or held f 0)))
      (λ nf. let l : k < get_or held g 0 = omega (arith, p.others g nf ne) in
      record { chain = g; place = k; from = inr (inr (ne, refl, refl)); live = l; same = p.kept g k ne l })
      (cases_eq g f))
      (cases_eq g 64)

  pub within_pushed : (count : ℕ) → Within next first held count → Within next' first' held' count
  within_pushed = within_moved next first held next' first' held' (Push f (get_or held f 0)) come

  pub apart_pushed : Apart next first held → Apart next' first' held'
  apart_pushed = apart_moved next first held next' first' held' (Push f (get_or held f 0)) come (push_once f (get_or held f 0))

  pub tailed_pushed : (last last' : List ℕ) → get_or last' f 0 ≡ get_or first 64 0 → ((g : ℕ) → (g ≡ f → ⊥) → get_or last' g 0 ≡ get_or last g 0) →
      Tailed next first last held → Tailed next' first' last' held'
  tailed_pushed last last' here away t g l some =
      ⊎_elim
      (λ e. let n : get_or held' g 0 - 1 ≡ get_or held f 0 = omega (arith, ap (λ x. get_or held' x 0) e, p.mine) in
      ap (λ x. get_or last' x 0) e ∙ here ∙ sym p.end ∙
      ap (block_at next' first' f) (sym n) ∙ ap (λ x. block_at next' first' x (get_or held' g 0 - 1)) (sym e))
      (λ nf. let ne : g ≡ 64 → ⊥ = λ e. omega arith in
      let n = p.others g nf ne in
      let any : 0 < get_or held g 0 = omega arith in
      away g nf ∙ t g l any ∙ sym (p.kept g (get_or held g 0 - 1) ne (omega arith)) ∙ ap (λ x. block_at next' first' g (x - 1)) (sym n))
      (cases_eq g f)

-- The free chain begins at its second block, and the count of the file f is one more.
pub record Moved (next first held first' held' : List ℕ) (f : ℕ) : Type 0 where
  pub front : get_or first' 64 0 ≡ get_or next (get_or first 64 0) 0
  pub heads : (g : ℕ) → (g ≡ f → ⊥) → (g ≡ 64 → ⊥) → get_or first' g 0 ≡ get_or first g 0
  pub mine : get_or held' f 0 ≡ get_or held f 0 + 1
  pub spare : get_or held' 64 0 + 1 ≡ get_or held 64 0
  pub others : (g : ℕ) → (g ≡ f → ⊥) → (g ≡ 64 → ⊥) → get_or held' g 0 ≡ get_or held g 0

-- where the file f is x
module _ (next : List ℕ) (files : List File) (free free' : Chain) (f : ℕ) (x : File) (wide : length files ≡ 64) (file : f < 64)
    (more : x.chain.held ≡ (file_at files f).chain.held + 1) (less : free'.held + 1 ≡ free.held) (front : free'.first ≡ get_or next free.first 0) where
  pub moved : Moved next (firsts files free) (helds files free) (firsts (set files f x) free') (helds (set files f x) free') f
  moved =
      let a = λ (y : File). y.chain.first in
      let h = λ (y : File). y.chain.held in
      record {
        front = set_free a files free.first wide f x free'.first file ∙ front ∙ ap (λ b. get_or next b 0) (sym (table_free a files free.first wide));
        heads = set_other a files free.first wide f x free'.first file;
        mine = set_mine h files free.held wide f x free'.held file ∙ more ∙ ap (λ n. n + 1) (sym (table_file h files free.held wide f file));
        spare = omega (arith, set_free h files free.held wide f x free'.held file, table_free h files free.held wide);
        others = set_other h files free.held wide f x free'.held file;
      }

  pub moved_sum : sum (helds (set files f x) free') ≡ sum (helds files free)
  moved_sum = omega (arith, set_sum (λ y. y.chain.held) files free.held wide f x free'.held file)

module _ (next first held next' first' held' : List ℕ) (f : ℕ) (m : Moved next first held first' held' f) (file : f < 64) (some : 0 < get_or held 64 0) where
  -- the first block of a file that has none
  pub pushed_start : next' ≡ next → get_or held f 0 ≡ 0 → get_or first' f 0 ≡ get_or first 64 0 → Pushed next first held next' first' held' f
  pushed_start e none here =
      let P : List ℕ → Type 0 = λ n. Pushed next first held n first' held' f in
      subst P (sym e) (record {
        kept = λ g k ne l. ap (λ a. walk next a k) (m.heads g (λ d. omega (arith, ap (λ x. get_or held x 0) d)) ne);
        end = ap (λ k. walk next (get_or first' f 0) k) none ∙ here;
        rest = λ k l. ap (λ a. walk next a k) m.front ∙ walk_shift next (get_or first 64 0) k;
        mine = m.mine;
        spare = m.spare;
        others = m.others;
      })

  -- the last block of a file that has some; z is the last one before
  module _ (z : ℕ) (any : 0 < get_or held f 0) (is : z ≡ block_at next first f (get_or held f 0 - 1)) (low : z < length next) (apart : Apart next first held)
      (here : get_or first' f 0 ≡ get_or first f 0) where
    head_same : (g : ℕ) → (g ≡ 64 → ⊥) → get_or first' g 0 ≡ get_or first g 0
    head_same g ne = ⊎_elim (λ e. ap (λ x. get_or first' x 0) e ∙ here ∙ ap (λ x. get_or first x 0) (sym e)) (λ nf. m.heads g nf ne) (cases_eq g f)

    append_kept : (g k : ℕ) → (g ≡ 64 → ⊥) → k < get_or held g 0 → block_at (set next z (get_or first 64 0)) first' g k ≡ block_at next first g k
    append_kept g k ne l =
        let M = set next z (get_or first 64 0) in
        ap (λ a. walk M a k) (head_same g ne) ∙
        walk_same M next (get_or first g 0) k
        (λ j h. get_or-set_other next z (walk next (get_or first g 0) j) (get_or first 64 0) 0
        (λ e. let s = apart (g, j, f, get_or held f 0 - 1) (omega arith, omega arith, e ∙ is) in omega (arith, s.1, ap (λ x. get_or held x 0) s.0)))

    append_end : block_at (set next z (get_or first 64 0)) first' f (get_or held f 0) ≡ block_at next first 64 0
    append_end =
        let M = set next z (get_or first 64 0) in
        let e : get_or held f 0 ≡ (get_or held f 0 - 1) + 1 = omega arith in
        ap (block_at M first' f) e ∙ walk_more M (get_or first' f 0) (get_or held f 0 - 1) ∙
        ap (λ x. get_or M x 0) (append_kept f (get_or held f 0 - 1) (λ d. omega arith) (omega arith) ∙ sym is) ∙ get_or-set_same next z (get_or first 64 0) 0 low

    append_rest : (k : ℕ) → suc k < get_or held 64 0 → block_at (set next z (get_or first 64 0)) first' 64 k ≡ block_at next first 64 (suc k)
    append_rest k l =
        let b = get_or first 64 0 in
        let M = set next z b in
        ap (λ a. walk M a k) m.front ∙
        walk_same M next (get_or next b 0) k
        (λ j h. get_or-set_other next z (walk next (get_or next b 0) j) b 0
        (λ e. let s = apart (64, suc j, f, get_or held f 0 - 1) (omega arith, omega arith, sym (walk_shift next b j) ∙ e ∙ is) in omega (arith, s.0))) ∙
        walk_shift next b k

    pub pushed_append : next' ≡ set next z (get_or first 64 0) → Pushed next first held next' first' held' f
    pushed_append e =
        let P : List ℕ → Type 0 = λ n. Pushed next first held n first' held' f in
        subst P (sym e) (record {
          kept = append_kept;
          end = append_end;
          rest = append_rest;
          mine = m.mine;
          spare = m.spare;
          others = m.others;
        })

-- the block b goes to the end of a file, of whose chain y is to be the beginning: it is the first one, or behind the last one
abbrev pub Linked : List ℕ → List ℕ → File → File → ℕ → Type 0
Linked next next' file y b =
    (y.chain.held ≡ file.chain.held) × (y.size ≡ file.size) ×
    (((file.chain.held ≡ 0) × (next' ≡ next) × (y.chain.first ≡ b)) ⊎
    ((file.chain.held ≡ 0 → ⊥) × (next' ≡ set next file.last b) × (y.chain.first ≡ file.chain.first)))

-- the free chain without its first block, and the file with that block
abbrev pub fewer : Chains → Chain
fewer t = record { first = get_or t.next t.free.first 0; held = t.free.held - 1 }

abbrev pub longer : Chains → File → File
longer t y = record { chain = record { first = y.chain.first; held = y.chain.held + 1 }; last = t.free.first; size = y.size }

-- the last block of a file that has some
module _ (t : Chains) (f : ℕ) (file : f < 64) (some : (file_at t.files f).chain.held ≡ 0 → ⊥) where
  held_some : 0 < held_by t f
  held_some = omega (arith, table_file (λ y. y.chain.held) t.files t.free.held t.wide f file)

  pub last_is : (file_at t.files f).last ≡ placed t f (held_by t f - 1)
  last_is = sym (get_or-map (λ (y : File). y.last) t.files f empty 0 (omega (arith, t.wide))) ∙ t.tailed f file held_some

  pub last_low : (file_at t.files f).last < 128
  last_low = omega (arith, last_is, t.within f (held_by t f - 1) (omega (arith, held_some)), t.few)

module _ (t : Chains) (f : ℕ) (y : File) (next' : List ℕ) (file : f < 64) (some : 0 < held_by t 64) (deep : length t.next ≡ 128)
    (linked : Linked t.next next' (file_at t.files f) y t.free.first) where
  less : t.free.held - 1 + 1 ≡ t.free.held
  less = omega (arith, table_free (λ y. y.chain.held) t.files t.free.held t.wide)

  pub pushed_sum : sum (helds (set t.files f (longer t y)) (fewer t)) ≡ sum (helds t.files t.free)
  pushed_sum = moved_sum t.next t.files t.free (fewer t) f (longer t y) t.wide file (ap (λ n. n + 1) linked.0) less refl

  pub pushed_sizes : sizes (set t.files f (longer t y)) ≡ sizes t.files
  pushed_sizes = set_alike (λ y. y.size) t.files f (longer t y) (omega (arith, t.wide)) linked.1

  pub pushed : Pushed t.next (firsts t.files t.free) (helds t.files t.free) next' (firsts (set t.files f (longer t y)) (fewer t)) (helds (set t.files f (longer t y)) (fewer t)) f
  pushed =
      let a = λ (y : File). y.chain.first in
      let first' = firsts (set t.files f (longer t y)) (fewer t) in
      let held' = helds (set t.files f (longer t y)) (fewer t) in
      let m = moved t.next t.files t.free (fewer t) f (longer t y) t.wide file (ap (λ n. n + 1) linked.0) less refl in
      let held = table_file (λ y. y.chain.held) t.files t.free.held t.wide f file in
      let mine = set_mine a t.files t.free.first t.wide f (longer t y) (fewer t).first file in
      let b = table_free a t.files t.free.first t.wide in
      ⊎_elim
      (λ l. pushed_start t.next (firsts t.files t.free) (helds t.files t.free) next' first' held' f m file some l.1 (held ∙ l.0) (mine ∙ l.2 ∙ sym b))
      (λ l. pushed_append t.next (firsts t.files t.free) (helds t.files t.free) next' first' held' f m file some
      (file_at t.files f).last (omega arith) (last_is t f file l.0) (omega (arith, last_low t f file l.0)) t.apart
      (mine ∙ l.2 ∙ sym (table_file a t.files t.free.first t.wide f file)) (l.1 ∙ ap (set t.next (file_at t.files f).last) (sym b)))
      linked.2

  pub pushed_within : Within next' (firsts (set t.files f (longer t y)) (fewer t)) (helds (set t.files f (longer t y)) (fewer t)) (count (set t.files f (longer t y)) (fewer t))
  pushed_within =
      let P : ℕ → Type 0 = λ n. Within next' (firsts (set t.files f (longer t y)) (fewer t)) (helds (set t.files f (longer t y)) (fewer t)) n in
      subst P (sym pushed_sum) (within_pushed _ _ _ _ _ _ f pushed file (count t.files t.free) t.within)

  pub pushed_tailed : Tailed next' (firsts (set t.files f (longer t y)) (fewer t)) (lasts (set t.files f (longer t y))) (helds (set t.files f (longer t y)) (fewer t))
  pushed_tailed =
      let k = λ (y : File). y.last in
      let long : f < length t.files = omega (arith, t.wide) in
      let e = map-set k t.files f (longer t y) in
      tailed_pushed _ _ _ _ _ _ f pushed file (lasts t.files) (lasts (set t.files f (longer t y)))
      (ap (λ l. get_or l f 0) e ∙ get_or-set_same (lasts t.files) f t.free.first 0 (omega (arith, length-map t.files k)) ∙ sym (table_free (λ y. y.chain.first) t.files t.free.first t.wide))
      (λ g nf. ap (λ l. get_or l g 0) e ∙ get_or-set_other (lasts t.files) f g t.free.first 0 nf)
      t.tailed
