-- A part of a file within one block: where its bytes lie, and that no other byte of a file lies there.
use Rattle.std.specs.Prelude.{◌≡◌, ℕ, ◌+◌, ◌-◌, ◌*◌, ◌/◌, ◌%◌, ◌<◌, ◌≤◌, ◌≢◌, ◌⊎◌, List, ◌++◌, length, take, drop, vec_items, sum, slice_index}
use Rattle.std.proofs.Common.{sym, ap, subst, ◌∙◌, inl, inr, ⊎_elim, arith}
use Rattle.std.proofs.Math.Seq.{paste}
use Rattle.std.proofs.lemmas.List.{get_or_past, get_or-take, get_or-drop, get_or_append_left, get_or-append_right, length-append, length-take-le, take_all}
use Rattle.std.proofs.lemmas.List.Sums.{get_or-le-sum_by}
use Rattle.std.proofs.lemmas.List.FromFn.{length-map-range_with_len}
use Rattle.std.proofs.lemmas.Bool.{cases_eq, cases_lt}
use Rattle.block_store.specs.Walk.{firsts}
use Rattle.block_store.specs.Walks.{walk_more}
use Rattle.block_store.specs.Places.{placed, held_by}
use Rattle.block_store.specs.declared.types.Chains.{Chains}
use Rattle.block_store.specs.Contents.{address, byte_of, size_of, contents_of, Overwritten}
use Rattle.block_store.specs.declared.types.ChainedStore.{ChainedStore}

pub get_or_le_sum : (xs : List ℕ) (i : ℕ) → slice_index xs i ≤ sum xs
get_or_le_sum xs i = ⊎_elim (λ l. get_or-le-sum_by (λ x. x) xs i 0 l) (λ l. omega (arith, get_or_past xs i 0 l)) (cases_lt i (length xs))

pub length_contents : (b : ChainedStore) (f : ℕ) → length (contents_of b f) ≡ size_of b f
length_contents b f = length-map-range_with_len (byte_of b f) 0 (size_of b f)

module _ (d : List ℕ) (at : ℕ) (s : List ℕ) (n : ℕ) (room : at ≤ length d) (long : n ≤ length s) where
  front : length (take at d) ≡ at
  front = length-take-le at d (omega arith)

  both : length (take at d ++ take n s) ≡ at + n
  both = length-append (take at d) (take n s) ∙ omega (arith, front, length-take-le n s long)

  pub get_or_paste_in : (k : ℕ) → at ≤ k → k < at + n → slice_index (paste d at s n) k ≡ slice_index s (k - at)
  get_or_paste_in k l h =
      get_or_append_left (take at d ++ take n s) (drop (at + n) d) 0 k (omega (arith, both)) ∙ get_or-append_right (take at d) (take n s) at k 0 front l ∙ get_or-take n s (k - at) 0 (omega arith)

  pub get_or_paste_out : (k : ℕ) → (k < at) ⊎ (at + n ≤ k) → slice_index (paste d at s n) k ≡ slice_index d k
  get_or_paste_out k =
      ⊎_elim
      (λ l. get_or_append_left (take at d ++ take n s) (drop (at + n) d) 0 k (omega (arith, both)) ∙ get_or_append_left (take at d) (take n s) 0 k (omega (arith, front)) ∙ get_or-take at d k 0 l)
      (λ l. get_or-append_right (take at d ++ take n s) (drop (at + n) d) (at + n) k 0 both l ∙ get_or-drop (at + n) d (k - (at + n)) 0 ∙ ap (λ x. slice_index d x) (omega arith))

-- n bytes of the file f from p on, within a block that the file has
module _ (b : ChainedStore) (f p n : ℕ) (file : f < 64) (room : p + n ≤ size_of b f) (short : p % 512 + n ≤ 512) (here : p / 512 < held_by b.chains f) where
  pub live : (g i : ℕ) → g < 64 → i < size_of b g → i / 512 < held_by b.chains g
  live g i l h = omega (arith, b.sized g l)

  -- the part lies within the memory
  pub part_fits : 512 * placed b.chains f (p / 512) + p % 512 + n ≤ length (vec_items b.memory)
  part_fits = omega (arith, b.fits, b.memory.ok.0, b.chains.within f (p / 512) here)

  pub part_in : (i : ℕ) → p ≤ i → i < p + n → address b f i ≡ (512 * placed b.chains f (p / 512) + p % 512) + (i - p)
  part_in i l h = let e : i / 512 ≡ p / 512 = omega arith in omega (arith, ap (placed b.chains f) e)

  clash : (g i : ℕ) → g < 64 → i < size_of b g → (g ≢ f) ⊎ ((i < p) ⊎ (p + n ≤ i)) →
      512 * placed b.chains f (p / 512) + p % 512 ≤ address b g i → address b g i < 512 * placed b.chains f (p / 512) + p % 512 + n → ⊥
  clash g i l h away low high =
      ⊎_elim
      (λ e. let s = b.chains.apart (g, i / 512, f, p / 512) (live g i l h, here, e) in omega (arith, s.0, s.1, e))
      (λ ne. omega arith)
      (cases_eq (placed b.chains g (i / 512)) (placed b.chains f (p / 512)))

  pub part_out : (g i : ℕ) → g < 64 → i < size_of b g → (g ≢ f) ⊎ ((i < p) ⊎ (p + n ≤ i)) →
      (address b g i < 512 * placed b.chains f (p / 512) + p % 512) ⊎ (512 * placed b.chains f (p / 512) + p % 512 + n ≤ address b g i)
  part_out g i l h away =
      ⊎_elim inl (λ low. ⊎_elim (λ high. absurd (clash g i l h away low high)) inr (cases_lt (address b g i) (512 * placed b.chains f (p / 512) + p % 512 + n)))
      (cases_lt (address b g i) (512 * placed b.chains f (p / 512) + p % 512))

  -- the store after the part is copied from s
  pub part_written : (d : ChainedStore) (s : List ℕ) → n ≤ length s → d.chains ≡ b.chains →
      vec_items d.memory ≡ paste (vec_items b.memory) (512 * placed b.chains f (p / 512) + p % 512) s n → Overwritten b d f p (take n s)
  part_written d s long chains memory =
      record {
        chains = chains;
        inside = λ i l h.
            let h' : i < p + n = omega (arith, length-take-le n s long) in
            ap (λ c. slice_index (vec_items d.memory) (512 * placed c f (i / 512) + i % 512)) chains ∙ ap (λ m. slice_index m (address b f i)) memory ∙
            ap (λ x. slice_index (paste (vec_items b.memory) (512 * placed b.chains f (p / 512) + p % 512) s n) x) (part_in i l h') ∙
            get_or_paste_in (vec_items b.memory) (512 * placed b.chains f (p / 512) + p % 512) s n (omega (arith, part_fits)) long (512 * placed b.chains f (p / 512) + p % 512 + (i - p)) (omega arith) (omega arith) ∙
            ap (λ x. slice_index s x) (omega arith) ∙ sym (get_or-take n s (i - p) 0 (omega arith));
        outside = λ g i l h away.
            ap (λ c. slice_index (vec_items d.memory) (512 * placed c g (i / 512) + i % 512)) chains ∙ ap (λ m. slice_index m (address b g i)) memory ∙
            get_or_paste_out (vec_items b.memory) (512 * placed b.chains f (p / 512) + p % 512) s n (omega (arith, part_fits)) long (address b g i)
            (part_out g i l h (⊎_elim inl (λ o. inr (⊎_elim inl (λ q. inr (omega (arith, length-take-le n s long))) o)) away));
      }

  -- and where that is all of s
  pub part_copied : (d : ChainedStore) (s : List ℕ) → length s ≡ n → d.chains ≡ b.chains →
      vec_items d.memory ≡ paste (vec_items b.memory) (512 * placed b.chains f (p / 512) + p % 512) s n → Overwritten b d f p s
  part_copied d s long chains memory = subst (Overwritten b d f p) (take_all n s (omega arith)) (part_written d s (omega arith) chains memory)

-- the block of the next part, where a part goes up to the end of its block
pub next_found : (t : Chains) (f q r block : ℕ) → block ≡ placed t f (q / 512) → r ≡ 512 - q % 512 → slice_index t.next block ≡ placed t f ((q + r) / 512)
next_found t f q r block e h =
    let d : q / 512 + 1 ≡ (q + r) / 512 = omega arith in
    ap (λ x. slice_index t.next x) e ∙ sym (walk_more t.next (slice_index (firsts t.files t.free) f) (q / 512)) ∙ ap (placed t f) d
