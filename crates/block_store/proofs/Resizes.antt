-- The length of a file becomes another, and the tables of the chains stay.
use Rattle.std.proofs.Common.{◌≡◌, ℕ, ◌<◌, [], ◌∷◌, ◌++◌, List, length, get_or, set, sum, sym, refl, ap, ◌∙◌, subst, arith}
use Rattle.std.proofs.lemmas.List.{map-set, get_or-set_same, get_or-set_other, length-map}
use Rattle.block_store.specs.declared.types.File.{File}
use Rattle.block_store.specs.declared.types.Chains.{Chains}
use Rattle.block_store.specs.Walk.{firsts, helds, lasts, sizes, count, Within, Apart, Tailed}
use Rattle.block_store.specs.Places.{size_in}
use Rattle.block_store.specs.Tables.{file_at, set_alike}

-- the files where the length of the file f is n
abbrev pub resized : List File → ℕ → ℕ → List File
resized files f n = set files f (record (file_at files f) { size = n })

module _ (t : Chains) (f n : ℕ) (file : f < 64) where
  long : f < length t.files
  long = omega (arith, t.wide)

  pub resized_firsts : firsts (resized t.files f n) t.free ≡ firsts t.files t.free
  resized_firsts = ap (λ l. l ++ t.free.first ∷ []) (set_alike (λ x. x.chain.first) t.files f (record (file_at t.files f) { size = n }) long refl)

  pub resized_helds : helds (resized t.files f n) t.free ≡ helds t.files t.free
  resized_helds = ap (λ l. l ++ t.free.held ∷ []) (set_alike (λ x. x.chain.held) t.files f (record (file_at t.files f) { size = n }) long refl)

  resized_lasts : lasts (resized t.files f n) ≡ lasts t.files
  resized_lasts = set_alike (λ x. x.last) t.files f (record (file_at t.files f) { size = n }) long refl

  resized_sizes : sizes (resized t.files f n) ≡ set (sizes t.files) f n
  resized_sizes = map-set (λ x. x.size) t.files f (record (file_at t.files f) { size = n })

  pub resized_mine : get_or (sizes (resized t.files f n)) f 0 ≡ n
  resized_mine = ap (λ l. get_or l f 0) resized_sizes ∙ get_or-set_same (sizes t.files) f n 0 (omega (arith, long, length-map t.files (λ (x : File). x.size)))

  pub resized_others : (g : ℕ) → (g ≡ f → ⊥) → get_or (sizes (resized t.files f n)) g 0 ≡ size_in t g
  resized_others g ne = ap (λ l. get_or l g 0) resized_sizes ∙ get_or-set_other (sizes t.files) f g n 0 ne

  pub resized_within : Within t.next (firsts (resized t.files f n) t.free) (helds (resized t.files f n) t.free) (count (resized t.files f n) t.free)
  resized_within =
      let P : List ℕ → List ℕ → Type 0 = λ a h. Within t.next a h (sum h) in
      subst (λ a. P a (helds (resized t.files f n) t.free)) (sym resized_firsts) (subst (P (firsts t.files t.free)) (sym resized_helds) t.within)

  pub resized_apart : Apart t.next (firsts (resized t.files f n) t.free) (helds (resized t.files f n) t.free)
  resized_apart =
      let P : List ℕ → List ℕ → Type 0 = λ a h. Apart t.next a h in
      subst (λ a. P a (helds (resized t.files f n) t.free)) (sym resized_firsts) (subst (P (firsts t.files t.free)) (sym resized_helds) t.apart)

  pub resized_tailed : Tailed t.next (firsts (resized t.files f n) t.free) (lasts (resized t.files f n)) (helds (resized t.files f n) t.free)
  resized_tailed =
      let P : List ℕ → List ℕ → List ℕ → Type 0 = λ a l h. Tailed t.next a l h in
      subst (λ a. P a (lasts (resized t.files f n)) (helds (resized t.files f n) t.free)) (sym resized_firsts)
      (subst (λ l. P (firsts t.files t.free) l (helds (resized t.files f n) t.free)) (sym resized_lasts) (subst (P (firsts t.files t.free) (lasts t.files)) (sym resized_helds) t.tailed))
