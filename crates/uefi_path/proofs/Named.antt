-- Components that may be names: none is empty, and none has a separator or a `/`.
use Rattle.std.proofs.Common.{◌≡◌, ℕ, Bool, true, false, not, ◌||◌, eqb, List, [], ◌∷◌, ◌++◌, sym, refl, ap, ◌∙◌, append_assoc, append-nil}
use Rattle.std.specs.List.{list_all}
use Rattle.std.proofs.lemmas.Bool.{and_parts, and_from, or_from, not-true, not_from_false, both_ways, cond-false, ne_eqb}
use Rattle.uefi_types.proofs.Tested.{all_append}
use Rattle.uefi_path.specs.Components.{sep, no_sep, pieces, unled, components, rejoined}
use Rattle.uefi_path.specs.Parents.{slash, no_slash, is_empty, ends_in_sep, joined_to}
use Rattle.uefi_path.specs.Validity.{denied}
use Rattle.uefi_path.specs.Laws.{named}
use Rattle.uefi_path.proofs.Cuts.{cut_rejoined, pieces_some}

all_weaker : (p q : ℕ → Bool) → ((u : ℕ) → p u ≡ true → q u ≡ true) → (us : List ℕ) → list_all p us ≡ true → list_all q us ≡ true
all_weaker p q f [] h = refl
all_weaker p q f (u ∷ us) h =
    let k = and_parts (p u) (list_all p us) h in
    and_from _ _ (f u k.0) (all_weaker p q f us k.1)

-- a unit that is one of the denied is denied
undenied : (u m : ℕ) → denied m ≡ true → not (denied u) ≡ true → not (eqb u m) ≡ true
undenied u m d h = not_from_false (eqb u m) (ne_eqb u m (λ e. both_ways (denied u) (not-true (denied u) h) (ap denied e ∙ d)))

module _ (c : List ℕ) (h : named c ≡ true) where
  pub named_some : is_empty c ≡ false
  named_some = not-true (is_empty c) (and_parts (not (is_empty c)) _ h).0

  pub named_bare : list_all no_sep c ≡ true
  named_bare = all_weaker (λ u. not (denied u)) no_sep (λ u. undenied u sep refl) c (and_parts (not (is_empty c)) _ h).1

  pub named_slashless : list_all no_slash c ≡ true
  named_slashless = all_weaker (λ u. not (denied u)) no_slash (λ u. undenied u slash refl) c (and_parts (not (is_empty c)) _ h).1

-- what holds of each component
each : (test : List ℕ → Bool) → ((c : List ℕ) → named c ≡ true → test c ≡ true) → (cs : List (List ℕ)) → list_all named cs ≡ true → list_all test cs ≡ true
each test f [] h = refl
each test f (c ∷ cs) h =
    let k = and_parts (named c) (list_all named cs) h in
    and_from _ _ (f c k.0) (each test f cs k.1)

pub all_bare : (cs : List (List ℕ)) → list_all named cs ≡ true → list_all (list_all no_sep) cs ≡ true
all_bare = each (list_all no_sep) named_bare

pub all_slashless : (cs : List (List ℕ)) → list_all named cs ≡ true → list_all (list_all no_slash) cs ≡ true
all_slashless = each (list_all no_slash) named_slashless

pub rejoined_slashless : (cs : List (List ℕ)) → list_all (list_all no_slash) cs ≡ true → list_all no_slash (rejoined cs) ≡ true
rejoined_slashless [] h = refl
rejoined_slashless (c ∷ []) h = (and_parts (list_all no_slash c) true h).0
rejoined_slashless (c ∷ (d ∷ ds)) h =
    let k = and_parts (list_all no_slash c) (list_all (list_all no_slash) (d ∷ ds)) h in
    all_append no_slash c (sep ∷ rejoined (d ∷ ds)) k.0 (rejoined_slashless (d ∷ ds) k.1)

-- what the components behind a first one add
behind : List (List ℕ) → List ℕ
behind [] = []
behind (c ∷ cs) = sep ∷ rejoined (c ∷ cs)

rejoined_first : (c : List ℕ) (cs : List (List ℕ)) → rejoined (c ∷ cs) ≡ c ++ behind cs
unfolding behind
rejoined_first c [] = sym (append-nil c)
rejoined_first c (d ∷ ds) = refl

ends_append : (xs : List ℕ) (y : ℕ) (ys : List ℕ) → ends_in_sep (xs ++ y ∷ ys) ≡ ends_in_sep (y ∷ ys)
ends_append [] y ys = refl
ends_append (x ∷ []) y ys = refl
ends_append (x ∷ (z ∷ zs)) y ys = ends_append (z ∷ zs) y ys

ends_bare : (xs : List ℕ) → list_all no_sep xs ≡ true → ends_in_sep xs ≡ false
ends_bare [] h = refl
ends_bare (x ∷ []) h = not-true (eqb x sep) (and_parts (no_sep x) true h).0
ends_bare (x ∷ (y ∷ ys)) h = ends_bare (y ∷ ys) (and_parts (no_sep x) (list_all no_sep (y ∷ ys)) h).1

-- such components are joined with one separator between two
joined_behind : (text : List ℕ) (cs : List (List ℕ)) → is_empty text ≡ false → ends_in_sep text ≡ false → list_all named cs ≡ true → joined_to text cs ≡ text ++ behind cs
unfolding behind
joined_behind text [] s e h = sym (append-nil text)
joined_behind text (c ∷ cs) s e h =
    let k = and_parts (named c) (list_all named cs) h in
    let one = cond-false (is_empty text || ends_in_sep text) (text ++ c) (text ++ sep ∷ c) (or_from _ _ s e) in
    ap (λ t. joined_to t cs) one
    ∙ joined_behind (text ++ sep ∷ c) cs (longer text (sep ∷ c) s) (last text c (named_some c k.0) (named_bare c k.0)) k.1
    ∙ append_assoc text (sep ∷ c) (behind cs) ∙ ap (λ z. text ++ sep ∷ z) (sym (rejoined_first c cs))
  where
    longer : (xs ys : List ℕ) → is_empty xs ≡ false → is_empty (xs ++ ys) ≡ false
    longer [] ys l = absurd (both_ways true l refl)
    longer (x ∷ xs) ys l = refl

    last : (xs ys : List ℕ) → is_empty ys ≡ false → list_all no_sep ys ≡ true → ends_in_sep (xs ++ sep ∷ ys) ≡ false
    last xs [] l b = absurd (both_ways true l refl)
    last xs (y ∷ ys) l b = ends_append xs sep (y ∷ ys) ∙ ends_bare (y ∷ ys) b

pub joined_named : (cs : List (List ℕ)) → list_all named cs ≡ true → joined_to [] cs ≡ rejoined cs
joined_named [] h = refl
joined_named (c ∷ cs) h =
    let k = and_parts (named c) (list_all named cs) h in
    joined_behind c cs (named_some c k.0) (ends_bare c (named_bare c k.0)) k.1 ∙ sym (rejoined_first c cs)

-- and are the components of what they give
pub components_rejoined : (cs : List (List ℕ)) → list_all named cs ≡ true → components (rejoined cs) ≡ cs
components_rejoined [] h = refl
components_rejoined (c ∷ cs) h =
    let k = and_parts (named c) (list_all named cs) h in
    let first = begins c (behind cs) (named_some c k.0) (named_bare c k.0) in
    let same = ap pieces (ap unled (rejoined_first c cs) ∙ first.0 ∙ sym (rejoined_first c cs)) in
    same ∙ pieces_some (rejoined (c ∷ cs)) (ap is_empty (rejoined_first c cs) ∙ first.1) ∙ cut_rejoined (c ∷ cs) refl (all_bare (c ∷ cs) h)
  where
    begins : (xs ys : List ℕ) → is_empty xs ≡ false → list_all no_sep xs ≡ true → (unled (xs ++ ys) ≡ xs ++ ys) × (is_empty (xs ++ ys) ≡ false)
    begins [] ys l b = absurd (both_ways true l refl)
    begins (x ∷ xs) ys l b = (cond-false _ _ _ (not-true (eqb x sep) (and_parts (no_sep x) (list_all no_sep xs) b).0), refl)
