-- The contents of whole files: after one part and another, after a write, after a file is emptied.
use Rattle.std.specs.Prelude.{◌≡◌, ℕ, ◌+◌, ◌-◌, ◌*◌, ◌/◌, ◌%◌, ◌<◌, ◌≤◌, max, ◌≢◌, ◌⊎◌, List, [], ◌++◌, map, length, take, drop, vec_items, sum, nat_lt, slice_index, slice_index_or, refl}
use Rattle.std.proofs.Common.{sym, ap, subst, ◌∙◌, inl, inr, ⊎_elim, arith, zero-add, take-add}
use Rattle.std.proofs.Math.Seq.{paste}
use Rattle.std.proofs.lemmas.List.{get_or-take, get_or-drop, get_or_append_left, get_or-append_right, length-append, length-take-le, length-take, length-drop, length-map, get_or-map, ext_get_or, take_at, drop_at, drop-drop, take-append-le, get_or_past, take_all, append_assoc}
use Rattle.std.proofs.lemmas.List.FromFn.{get_or-map-range_with_len, length-map-range_with_len}
use Rattle.std.proofs.lemmas.List.Sums.{sum_by_more}
use Rattle.std.proofs.lemmas.Bool.{cases_lt, cond-true, lt-ltb}
use borrow.Rule.Slice.PartMut.{put_mid, post_of}
use Rattle.std.specs.List.{range_with_len}
use Rattle.block_store.specs.Files.{Files, Kept, replaced, overwritten, blocks_for, blocks_used, capacity}
use Rattle.block_store.specs.Walk.{helds, sizes, Sized}
use Rattle.block_store.specs.Tables.{empty, file_at, table_width}
use Rattle.block_store.specs.Places.{placed, held_by, size_in, Emptied, Resized}
use Rattle.block_store.specs.declared.types.Chains.{Chains}
use Rattle.block_store.specs.Contents.{byte_of, size_of, contents_of, blocks_of, free_of, reach, Stretched, Overwritten}
use Rattle.block_store.specs.declared.types.ChainedStore.{ChainedStore}
use Rattle.block_store.specs.Parts.{get_or_le_sum, length_contents, get_or_paste_in, get_or_paste_out, part_fits, part_in}
use Rattle.block_store.specs.Slots.{used_is, replaced_is}

pub held_small : (t : Chains) (f : ℕ) → held_by t f ≤ 128
held_small t f = omega (arith, get_or_le_sum (helds t.files t.free) f, t.few)

pub size_small : (b : ChainedStore) (f : ℕ) → f < 64 → size_of b f ≤ 65536
size_small b f l = omega (arith, b.sized f l, held_small b.chains f)

width : (b : ChainedStore) → length (sizes b.chains.files) ≡ 64
width b = length-map b.chains.files (λ x. x.size) ∙ b.chains.wide

-- the length, read off the file, past the slots too
pub length_file : (b : ChainedStore) (f : ℕ) → length (contents_of b f) ≡ (file_at b.chains.files f).size
length_file b f =
    length_contents b f ∙
    ⊎_elim
    (λ l. get_or-map (λ x. x.size) b.chains.files f empty 0 l)
    (λ l. get_or_past (sizes b.chains.files) f 0 (omega (arith, length-map b.chains.files (λ x. x.size))) ∙ ap (λ x. x.size) (sym (get_or_past b.chains.files f empty l)))
    (cases_lt f (length b.chains.files))

-- past the slots there is nothing
pub none_past : (b : ChainedStore) (f : ℕ) → 64 ≤ f → contents_of b f ≡ []
none_past b f l = ap (λ n. map (byte_of b f) (range_with_len 0 n)) (get_or_past (sizes b.chains.files) f 0 (omega (arith, width b)))

-- there are from 1 to 128 blocks
pub limits_are : (b : ChainedStore) → (0 < blocks_of b) × (blocks_of b ≤ 128)
limits_are b = (b.chains.some, b.chains.few)

-- the capacity is what the chains say
pub capacity_is : (b : ChainedStore) (f : ℕ) → f < 64 → capacity (contents_of b) (free_of b) f ≡ reach b f
capacity_is b f l =
    cond-true (nat_lt f 64) (512 * (blocks_for (length (contents_of b f)) + free_of b)) 0 (lt-ltb f 64 l) ∙ omega (arith, length_contents b f, b.sized f l)

pub whole_is : (b : ChainedStore) → free_of b + blocks_used (contents_of b) 64 ≡ blocks_of b
whole_is b =
    let held = helds b.chains.files b.chains.free in
    let wide = table_width (λ x. x.chain.held) b.chains.files b.chains.free.held b.chains.wide in
    let used = used_is (contents_of b) held 64 (omega (arith, wide)) (λ f l. b.sized f l ∙ ap blocks_for (sym (length_contents b f))) in
    omega (arith, used, sum_by_more (λ x. x) held 64 0 (omega (arith, wide)), ap sum (take_all 65 held (omega (arith, wide))))

pub get_or_contents : (b : ChainedStore) (f i : ℕ) → i < size_of b f → slice_index (contents_of b f) i ≡ byte_of b f i
get_or_contents b f i l = get_or-map-range_with_len (byte_of b f) 0 (size_of b f) i i 0 l (zero-add i)

-- a file whose length and bytes are as they were
pub same_contents : (b d : ChainedStore) (f : ℕ) → size_of d f ≡ size_of b f → ((i : ℕ) → i < size_of b f → byte_of d f i ≡ byte_of b f i) → contents_of d f ≡ contents_of b f
same_contents b d f e h =
    ext_get_or 0 (contents_of d f) (contents_of b f) (length_contents d f ∙ e ∙ sym (length_contents b f))
    (λ i l. let k : i < size_of b f = omega (arith, length_contents d f) in get_or_contents d f i (omega arith) ∙ h i k ∙ sym (get_or_contents b f i k))

held_at : (b : ChainedStore) (f i : ℕ) → i < length (contents_of b f) → i / 512 < held_by b.chains f
held_at b f i l =
    ⊎_elim
    (λ file. omega (arith, b.sized f file, length_contents b f))
    (λ past. absurd (omega (arith, ap length (none_past b f past))))
    (cases_lt f 64)

-- the memory has the files' bytes
pub kept_is : (b : ChainedStore) → Kept (contents_of b) (blocks_of b) (vec_items b.memory)
kept_is b =
    record {
      place = placed b.chains;
      within = λ f i l. b.chains.within f (i / 512) (held_at b f i l);
      apart = λ f i g j l m e. b.chains.apart (f, i / 512, g, j / 512) (held_at b f i l, held_at b g j m, e);
      bytes = λ f i l. sym (get_or_contents b f i (omega (arith, length_contents b f)));
    }

-- one write after another
module _ (b d e : ChainedStore) (f p : ℕ) (xs ys : List ℕ) (file : f < 64) (room : p + length xs + length ys ≤ size_of b f) (o : Overwritten b d f p xs) (q : Overwritten d e f (p + length xs) ys) where
  size_is : (g : ℕ) → size_of d g ≡ size_of b g
  size_is g = ap (λ c. size_in c g) o.chains

  pub over_then : Overwritten b e f p (xs ++ ys)
  over_then =
      record {
        chains = q.chains ∙ o.chains;
        inside = λ i l h.
            ⊎_elim
            (λ s. q.outside f i file (omega (arith, size_is f)) (inr (inl s)) ∙ o.inside i l s ∙ sym (get_or_append_left xs ys 0 (i - p) (omega arith)))
            (λ s. q.inside i s (omega (arith, length-append xs ys)) ∙ ap (λ x. slice_index ys x) (omega arith) ∙ sym (get_or-append_right xs ys (length xs) (i - p) 0 refl (omega arith)))
            (cases_lt i (p + length xs));
        outside = λ g i l h away.
            q.outside g i l (omega (arith, size_is g)) (⊎_elim inl (λ w. inr (⊎_elim (λ s. inl (omega arith)) (λ s. inr (omega (arith, length-append xs ys))) w)) away) ∙
            o.outside g i l h (⊎_elim inl (λ w. inr (⊎_elim inl (λ s. inr (omega (arith, length-append xs ys))) w)) away);
      }

-- nothing written
pub over_none : (b : ChainedStore) (f p : ℕ) → Overwritten b b f p []
over_none b f p = record { chains = refl; inside = λ i l h. absurd (omega arith); outside = λ g i l h away. refl }

-- a file made longer, and then written to
module _ (b d e : ChainedStore) (f p r : ℕ) (xs : List ℕ) (file : f < 64) (start : p ≤ size_of b f) (long : r ≤ length xs) (s : Stretched b d f (p + r)) (o : Overwritten d e f p (take r xs)) where
  after : (g : ℕ) → size_of e g ≡ size_of d g
  after g = ap (λ c. size_in c g) o.chains

  size_after : size_of e f ≡ max (size_of b f) (p + r)
  size_after = after f ∙ s.mine

  length_after : length (paste (contents_of b f) p xs r) ≡ max (size_of b f) (p + r)
  length_after =
      length-append (take p (contents_of b f) ++ take r xs) (drop (p + r) (contents_of b f)) ∙
      omega (arith, length-append (take p (contents_of b f)) (take r xs), length-take-le p (contents_of b f) (omega (arith, length_contents b f)), length-take-le r xs long, length-drop (p + r) (contents_of b f), length_contents b f)

  byte_after : (i : ℕ) → i < size_of e f → byte_of e f i ≡ slice_index (paste (contents_of b f) p xs r) i
  byte_after i l =
      let at : p ≤ length (contents_of b f) = omega (arith, length_contents b f) in
      let n = length-take-le r xs long in
      let out : (i < p) ⊎ (p + r ≤ i) → byte_of e f i ≡ slice_index_or (paste (contents_of b f) p xs r) i 0 =
      λ w. let k : i < size_of b f = ⊎_elim (λ x. omega arith) (λ x. omega (arith, size_after)) w in
      o.outside f i file (omega (arith, after f)) (inr (⊎_elim inl (λ x. inr (omega arith)) w)) ∙ s.bytes f i file k ∙ sym (get_or_contents b f i k) ∙ sym (get_or_paste_out (contents_of b f) p xs r at long i w) in
      ⊎_elim (λ x. out (inl x))
      (λ x. ⊎_elim
      (λ y. o.inside i x (omega arith) ∙ get_or-take r xs (i - p) 0 (omega arith) ∙ sym (get_or_paste_in (contents_of b f) p xs r at long i x y))
      (λ y. out (inr y))
      (cases_lt i (p + r)))
      (cases_lt i p)

  written_here : contents_of e f ≡ paste (contents_of b f) p xs r
  written_here =
      ext_get_or 0 (contents_of e f) (paste (contents_of b f) p xs r) (length_contents e f ∙ size_after ∙ sym length_after)
      (λ i l. let k : i < size_of e f = omega (arith, length_contents e f) in get_or_contents e f i k ∙ byte_after i k)

  written_others : (g : ℕ) → (g ≢ f) → contents_of e g ≡ contents_of b g
  written_others g ne =
      ⊎_elim
      (λ l. let z = s.others g l ne in same_contents b e g (after g ∙ z) (λ i h. o.outside g i l (omega arith) (inl ne) ∙ s.bytes g i l h))
      (λ l. none_past e g l ∙ sym (none_past b g l))
      (cases_lt g 64)

  pub written : contents_of e ≡ replaced (contents_of b) f (overwritten (contents_of b f) p r xs)
  written =
      replaced_is (contents_of b) (contents_of e) f (overwritten (contents_of b f) p r xs)
      (written_here ∙ append_assoc (take p (contents_of b f)) (take r xs) (drop (p + r) (contents_of b f))) written_others

  pub written_spare : free_of e + blocks_for (length (contents_of e f)) ≡ free_of b + blocks_for (length (contents_of b f))
  written_spare = omega (arith, length_contents e f, length_contents b f, after f, ap (λ c. held_by c 64) o.chains, s.spare)

-- what a part of a file reads
pub part_read : (b : ChainedStore) (f p n : ℕ) → f < 64 → p + n ≤ size_of b f → p % 512 + n ≤ 512 → p / 512 < held_by b.chains f →
    take n (drop (512 * placed b.chains f (p / 512) + p % 512) (vec_items b.memory)) ≡ take n (drop p (contents_of b f))
part_read b f p n file room short here =
    let m = vec_items b.memory in
    let from = 512 * placed b.chains f (p / 512) + p % 512 in
    let fits = part_fits b f p n file room short here in
    let one = length-take n (drop from m) in
    let two = length-take n (drop p (contents_of b f)) in
    ext_get_or 0 (take n (drop from m)) (take n (drop p (contents_of b f)))
    (omega (arith, one, two, length-drop from m, length-drop p (contents_of b f), length_contents b f))
    (λ i l. let k : i < n = omega (arith, one) in
    get_or-take n (drop from m) i 0 k ∙ get_or-drop from m i 0 ∙ ap (λ x. slice_index m x) (omega (arith, part_in b f p n file room short here (p + i) (omega arith) (omega arith))) ∙
    sym (get_or_contents b f (p + i) (omega arith)) ∙ sym (get_or-drop p (contents_of b f) i 0) ∙ sym (get_or-take n (drop p (contents_of b f)) i 0 k))

-- one part more of xs: r bytes behind the n that are written
pub put_more : (b d e : ChainedStore) (f p from k n r m : ℕ) (xs : List ℕ) → f < 64 → p + length xs ≤ size_of b f → n ≤ length xs → r ≤ length xs - n → k ≡ n → from ≡ p + n → n + r ≡ m →
    Overwritten b d f p (take k xs) → Overwritten d e f from (take r (drop n xs)) → Overwritten b e f p (take m xs)
put_more b d e f p from k n r m xs file room ln lr done start more o q =
    let part = take r (drop n xs) in
    let o' = subst (λ (i : ℕ). Overwritten b d f p (take i xs)) done o in
    let q' = subst (λ (i : ℕ). Overwritten d e f i part) (start ∙ ap (λ i. p + i) (sym (length-take-le n xs ln))) q in
    let size : length part ≤ r = omega (arith, length-take r (drop n xs)) in
    subst (λ (z : List ℕ). Overwritten b e f p z) (sym (take-add n r xs) ∙ ap (λ i. take i xs) more) (over_then b d e f p (take n xs) part file (omega (arith, length-take-le n xs ln)) o' q')

pub map_same : (h k : ℕ → ℕ) (n m : ℕ) → n ≡ m → ((i : ℕ) → i < m → h i ≡ k i) → map h (range_with_len 0 n) ≡ map k (range_with_len 0 m)
map_same h k n m e p =
    ext_get_or 0 (map h (range_with_len 0 n)) (map k (range_with_len 0 m)) (length-map-range_with_len h 0 n ∙ e ∙ sym (length-map-range_with_len k 0 m))
    (λ i l. let j : i < m = omega (arith, length-map-range_with_len h 0 n) in
    get_or-map-range_with_len h 0 n i i 0 (omega arith) (zero-add i) ∙ p i j ∙ sym (get_or-map-range_with_len k 0 m i i 0 j (zero-add i)))

-- the files, where one is emptied: its blocks are given up, and then its length is 0
pub freed : (m : List ℕ) (t u v : Chains) (f : ℕ) → Emptied t u f → Resized u v f 0 → Sized (sizes t.files) (helds t.files t.free) →
    ◌≡◌ {A = Files} (λ g. map (λ i. slice_index m (512 * placed v g (i / 512) + i % 512)) (range_with_len 0 (size_in v g)))
    (replaced (λ g. map (λ i. slice_index m (512 * placed t g (i / 512) + i % 512)) (range_with_len 0 (size_in t g))) f [])
freed m t u v f e r s =
    let long : length (sizes t.files) ≡ 64 = length-map t.files (λ x. x.size) ∙ t.wide in
    replaced_is (λ g. map (λ i. slice_index m (512 * placed t g (i / 512) + i % 512)) (range_with_len 0 (size_in t g)))
    (λ g. map (λ i. slice_index m (512 * placed v g (i / 512) + i % 512)) (range_with_len 0 (size_in v g))) f []
    (ap (λ n. map (λ i. slice_index m (512 * placed v f (i / 512) + i % 512)) (range_with_len 0 n)) r.mine)
    (λ g ne. map_same _ _ (size_in v g) (size_in t g) (r.others g ne ∙ e.lengths g)
    (λ i h. ⊎_elim
    (λ l. ap (λ x. slice_index m (512 * x + i % 512)) (r.kept g (i / 512) ∙ e.kept g (i / 512) l ne (omega (arith, s g l))))
    (λ l. absurd (omega (arith, get_or_past (sizes t.files) g 0 (omega arith))))
    (cases_lt g 64)))

-- one part more of what is read
pub fetch_more : (out part xs : List ℕ) (p n r k : ℕ) → n ≤ length out → r ≤ length part → take n out ≡ take n (drop p xs) → take r part ≡ take r (drop (p + n) xs) →
    take (n + r) (put_mid n k out part) ≡ take (n + r) (drop p xs)
fetch_more out part xs p n r k ln lr before here =
    let rest = post_of n k out in
    let front = length-take-le n out ln in
    take-add n r (put_mid n k out part) ∙ ap (λ z. z ++ take r (drop n (put_mid n k out part))) (take_at (take n out) (part ++ rest) n front ∙ before) ∙
    ap (λ z. take n (drop p xs) ++ take r z) (drop_at (take n out) (part ++ rest) n front) ∙
    ap (λ z. take n (drop p xs) ++ z) (take-append-le r part rest lr ∙ here ∙ ap (take r) (sym (drop-drop n p xs))) ∙ sym (take-add n r (drop p xs))
