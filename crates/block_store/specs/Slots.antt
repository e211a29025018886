-- What follows for every block store: one slot changed, the blocks in use, and how far a file can grow.
use Rattle.std.specs.Prelude.{◌≡◌, ℕ, zero, suc, ◌+◌, ◌*◌, ◌<◌, ◌≤◌, min, List, [], ◌++◌, length, take, drop, sum, ◌==◌, ◌≢◌, nat_lt, slice_index, refl}
use Rattle.std.proofs.Common.{sym, ap, ◌∙◌, ⊎_elim, add-one, add-zero, arith}
use Rattle.std.proofs.Math.Path.{fun_ext}
use Rattle.std.proofs.lemmas.List.{take_all, drop_all, take-append-drop}
use Rattle.std.proofs.lemmas.List.Sums.{sum_by_more}
use Rattle.std.proofs.lemmas.Bool.{cases_eq, cases_lt, eq-eqb, ne_eqb, cond-true, cond-false, lt-ltb, le-ltb}
use Rattle.block_store.specs.Files.{Files, replaced, overwritten, blocks_for, blocks_used, capacity}

-- Files that are as they were but at one slot.
pub replaced_is : (old new : Files) (slot : ℕ) (bytes : List ℕ) → new slot ≡ bytes → ((g : ℕ) → (g ≢ slot) → new g ≡ old g) → new ≡ replaced old slot bytes
replaced_is old new slot bytes here others =
    fun_ext
    (λ n. ⊎_elim
    (λ e. ap new e ∙ here ∙ sym (cond-true (n == slot) bytes (old n) (eq-eqb n slot e)))
    (λ ne. others n ne ∙ sym (cond-false (n == slot) bytes (old n) (ne_eqb n slot ne)))
    (cases_eq n slot))

pub replaced_here : (files : Files) (slot : ℕ) (bytes : List ℕ) → replaced files slot bytes slot ≡ bytes
replaced_here files slot bytes = cond-true (slot == slot) bytes (files slot) (eq-eqb slot slot refl)

pub replaced_other : (files : Files) (slot : ℕ) (bytes : List ℕ) (n : ℕ) → (n ≢ slot) → replaced files slot bytes n ≡ files n
replaced_other files slot bytes n ne = cond-false (n == slot) bytes (files n) (ne_eqb n slot ne)

-- no bytes written
pub overwritten_none : (old : List ℕ) (p : ℕ) (bytes : List ℕ) → overwritten old p 0 bytes ≡ old
overwritten_none old p bytes = ap (λ n. take p old ++ drop n old) (add-zero p) ∙ take-append-drop p old

-- a position past the end is as good as the end
pub overwritten_clipped : (old : List ℕ) (p n : ℕ) (bytes : List ℕ) → overwritten old (min p (length old)) n bytes ≡ overwritten old p n bytes
overwritten_clipped old p n bytes =
    ⊎_elim
    (λ l. ap (λ q. overwritten old q n bytes) (omega arith))
    (λ l. let e : min p (length old) ≡ length old = omega arith in
    ap (λ q. overwritten old q n bytes) e ∙
    ap (λ z. z ++ (take n bytes ++ drop (length old + n) old)) (take_all (length old) old (omega arith) ∙ sym (take_all p old l)) ∙
    ap (λ z. take p old ++ (take n bytes ++ z)) (drop_all (length old + n) old (omega arith) ∙ sym (drop_all (p + n) old (omega arith))))
    (cases_lt p (length old))

-- the blocks in use are the sum of a table of them
pub used_is : (files : Files) (held : List ℕ) (n : ℕ) → n ≤ length held → ((f : ℕ) → f < n → slice_index held f ≡ blocks_for (length (files f))) → blocks_used files n ≡ sum (take n held)
unfolding blocks_used
used_is files held zero l h = refl
used_is files held (suc n) l h =
    omega (arith, used_is files held n (omega arith) (λ f k. h f (omega arith)), h n (omega arith), sum_by_more (λ x. x) held n 0 (omega arith), ap (λ m. sum (take m held)) (add-one n))

-- each file has no more blocks than all of them
pub used_at : (files : Files) (n f : ℕ) → f < n → blocks_for (length (files f)) ≤ blocks_used files n
unfolding blocks_used
used_at files zero f l = absurd (omega arith)
used_at files (suc n) f l =
    ⊎_elim
    (λ e. omega (arith, ap (λ x. blocks_for (length (files x))) e))
    (λ ne. omega (arith, used_at files n f (omega arith)))
    (cases_eq f n)

-- How far a file can grow, from the laws of a store: its capacity is at most 65,536 bytes, and it has no more bytes than that.
module _ (files : Files) (free blocks : ℕ) (slots : (f : ℕ) → 64 ≤ f → files f ≡ []) (few : blocks ≤ 128) (whole : free + blocks_used files 64 ≡ blocks) where
  pub reach_small : (f : ℕ) → 512 * (blocks_for (length (files f)) + free) ≤ 65536
  reach_small f =
      ⊎_elim
      (λ l. omega (arith, used_at files 64 f l))
      (λ l. omega (arith, ap (λ z. length z) (slots f l)))
      (cases_lt f 64)

  pub capacity_small : (f : ℕ) → capacity files free f ≤ 65536
  capacity_small f =
      ⊎_elim
      (λ l. omega (arith, cond-true (nat_lt f 64) (512 * (blocks_for (length (files f)) + free)) 0 (lt-ltb f 64 l), reach_small f))
      (λ l. omega (arith, cond-false (nat_lt f 64) (512 * (blocks_for (length (files f)) + free)) 0 (le-ltb f 64 l)))
      (cases_lt f 64)

  pub length_within : (f : ℕ) → length (files f) ≤ capacity files free f
  length_within f =
      ⊎_elim
      (λ l. omega (arith, cond-true (nat_lt f 64) (512 * (blocks_for (length (files f)) + free)) 0 (lt-ltb f 64 l)))
      (λ l. omega (arith, ap (λ z. length z) (slots f l)))
      (cases_lt f 64)
