-- Tables of the chains: of what a table says where one file is another.
use Rattle.std.specs.Prelude.{◌≡◌, ℕ, ◌+◌, ◌<◌, ◌≢◌, List, [], ◌∷◌, ◌++◌, map, length, sum, slice_index, slice_index_or, slice_set}
use Rattle.std.proofs.Common.{sym, ap, ◌∙◌, ⊎_elim, arith}
use Rattle.std.proofs.lemmas.List.{map-set, set-get_or, get_or-map, get_or_at, get_or_append_left, get_or_past, get_or-set_same, get_or-set_other, length-map, length-set, length-append}
use Rattle.std.proofs.lemmas.List.Sums.{sum_by_push, sum_by-set}
use Rattle.std.proofs.lemmas.Bool.{cases_lt}
use Rattle.block_store.specs.declared.types.File.{File}

-- the file that has no block
abbrev pub empty : File
empty = record { chain = record { first = 0; held = 0 }; last = 0; size = 0 }

abbrev pub file_at : List File → ℕ → File
file_at files f = slice_index_or files f empty

-- a table of what k says of each file, and z of the free chain
module _ (k : File → ℕ) (files : List File) (z : ℕ) (long : length files ≡ 64) where
  width : length (map k files) ≡ 64
  width = length-map files k ∙ long

  pub table_width : length (map k files ++ z ∷ []) ≡ 65
  table_width = length-append (map k files) (z ∷ []) ∙ omega (arith, width)

  pub table_free : slice_index (map k files ++ z ∷ []) 64 ≡ z
  table_free = get_or_at (map k files) z [] 0 64 width

  pub table_file : (f : ℕ) → f < 64 → slice_index (map k files ++ z ∷ []) f ≡ k (file_at files f)
  table_file f l = get_or_append_left (map k files) (z ∷ []) 0 f (omega (arith, width)) ∙ get_or-map k files f empty 0 (omega arith)

  pub table_sum : sum (map k files ++ z ∷ []) ≡ sum (map k files) + z
  table_sum = sum_by_push (λ x. x) (map k files) z

-- the file f is x, of which k says what it says of the file that was there
pub set_alike : (k : File → ℕ) (files : List File) (f : ℕ) (x : File) → f < length files → k x ≡ k (file_at files f) → map k (slice_set files f x) ≡ map k files
set_alike k files f x l e =
    map-set k files f x ∙ ap (slice_set (map k files) f) (e ∙ sym (get_or-map k files f empty 0 l)) ∙ set-get_or (map k files) f 0

-- the same where the file f is x, and z' of the free chain
module _ (k : File → ℕ) (files : List File) (z : ℕ) (long : length files ≡ 64) (f : ℕ) (x : File) (z' : ℕ) (file : f < 64) where
  long' : length (slice_set files f x) ≡ 64
  long' = length-set files f x ∙ long

  pub set_mine : slice_index (map k (slice_set files f x) ++ z' ∷ []) f ≡ k x
  set_mine = table_file k (slice_set files f x) z' long' f file ∙ ap k (get_or-set_same files f x empty (omega arith))

  pub set_free : slice_index (map k (slice_set files f x) ++ z' ∷ []) 64 ≡ z'
  set_free = table_free k (slice_set files f x) z' long'

  pub set_other : (g : ℕ) → (g ≢ f) → (g ≢ 64) → slice_index (map k (slice_set files f x) ++ z' ∷ []) g ≡ slice_index (map k files ++ z ∷ []) g
  set_other g nf ne =
      ⊎_elim
      (λ l. table_file k (slice_set files f x) z' long' g l ∙ ap k (get_or-set_other files f g x empty nf) ∙ sym (table_file k files z long g l))
      (λ l. get_or_past (map k (slice_set files f x) ++ z' ∷ []) g 0 (omega (arith, table_width k (slice_set files f x) z' long')) ∙
      sym (get_or_past (map k files ++ z ∷ []) g 0 (omega (arith, table_width k files z long))))
      (cases_lt g 64)

  pub set_sum : sum (map k (slice_set files f x) ++ z' ∷ []) + z + k (file_at files f) ≡ sum (map k files ++ z ∷ []) + z' + k x
  set_sum =
      omega (
        arith,
        table_sum k files z long,
        table_sum k (slice_set files f x) z' long',
        ap sum (map-set k files f x),
        sum_by-set (λ n. n) (map k files) f (k x) 0 (omega (arith, width k files z long)),
        get_or-map k files f empty 0 (omega arith),
      )
