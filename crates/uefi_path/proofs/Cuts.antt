-- Cutting a text at its separators and joining the pieces again are inverse to one another.
use Rattle.std.proofs.Common.{◌≡◌, ℕ, Bool, true, false, cond, not, eqb, List, [], ◌∷◌, ◌++◌, sym, refl, ap, ◌∙◌}
use Rattle.std.proofs.lemmas.Bool.{and_parts, and_from, not-true, cond-false, both_ways}
use Rattle.std.proofs.lemmas.List.Splits.{join_with_byte-slice_split}
use Rattle.std.specs.List.{onto_first, list_all}
use Rattle.uefi_path.specs.Components.{sep, no_sep, cut, pieces, rejoined}
use Rattle.uefi_path.specs.Parents.{is_empty}

-- there is at least one piece
pub cut_some : (xs : List ℕ) → is_empty (cut xs) ≡ false
cut_some [] = refl
cut_some (x ∷ xs) = by (eqb x sep) (cut xs)
  where
    by : (b : Bool) (ps : List (List ℕ)) → is_empty (cond b ([] ∷ ps) (onto_first x ps)) ≡ false
    by true ps = refl
    by false [] = refl
    by false (p ∷ ps) = refl

-- no piece has a separator
pub cut_bare : (xs : List ℕ) → list_all (list_all no_sep) (cut xs) ≡ true
cut_bare [] = refl
cut_bare (x ∷ xs) = by (eqb x sep) (cut xs) refl (cut_bare xs)
  where
    by : (b : Bool) (ps : List (List ℕ)) → eqb x sep ≡ b → list_all (list_all no_sep) ps ≡ true → list_all (list_all no_sep) (cond b ([] ∷ ps) (onto_first x ps)) ≡ true
    by true ps e h = h
    by false [] e h = and_from _ _ (and_from _ _ (ap not e) refl) refl
    by false (p ∷ ps) e h =
        let q = and_parts (list_all no_sep p) (list_all (list_all no_sep) ps) h in
        and_from _ _ (and_from _ _ (ap not e) q.0) q.1

-- a separator between two texts is where they are cut
pub cut_append : (xs ys : List ℕ) → cut (xs ++ sep ∷ ys) ≡ cut xs ++ cut ys
cut_append [] ys = refl
cut_append (x ∷ xs) ys =
    ap (λ ps. cond (eqb x sep) ([] ∷ ps) (onto_first x ps)) (cut_append xs ys) ∙ by (eqb x sep) (cut xs) (cut_some xs)
  where
    by : (b : Bool) (ps : List (List ℕ)) → is_empty ps ≡ false → cond b ([] ∷ (ps ++ cut ys)) (onto_first x (ps ++ cut ys)) ≡ cond b ([] ∷ ps) (onto_first x ps) ++ cut ys
    by b [] s = absurd (both_ways true s refl)
    by true (p ∷ ps) s = refl
    by false (p ∷ ps) s = refl

-- a text without separators is one piece
pub cut_one : (p : List ℕ) → list_all no_sep p ≡ true → cut p ≡ p ∷ []
cut_one [] h = refl
cut_one (x ∷ xs) h =
    let q = and_parts (no_sep x) (list_all no_sep xs) h in
    cond-false _ _ _ (not-true (eqb x sep) q.0) ∙ ap (onto_first x) (cut_one xs q.1)

-- pieces without separators are cut again where they were joined
pub cut_rejoined : (ds : List (List ℕ)) → is_empty ds ≡ false → list_all (list_all no_sep) ds ≡ true → cut (rejoined ds) ≡ ds
cut_rejoined [] s h = absurd (both_ways true s refl)
cut_rejoined (d ∷ []) s h = cut_one d (and_parts (list_all no_sep d) true h).0
cut_rejoined (d ∷ (e ∷ es)) s h =
    let q = and_parts (list_all no_sep d) (list_all (list_all no_sep) (e ∷ es)) h in
    cut_append d (rejoined (e ∷ es)) ∙ ap (λ z. z ++ cut (rejoined (e ∷ es))) (cut_one d q.0) ∙ ap (λ z. d ∷ z) (cut_rejoined (e ∷ es) refl q.1)

pub pieces_some : (ys : List ℕ) → is_empty ys ≡ false → pieces ys ≡ cut ys
pieces_some [] s = absurd (both_ways true s refl)
pieces_some (y ∷ ys) s = refl

pub pieces_bare : (ys : List ℕ) → list_all (list_all no_sep) (pieces ys) ≡ true
pieces_bare [] = refl
pieces_bare (y ∷ ys) = cut_bare (y ∷ ys)

pub rejoined_pieces : (ys : List ℕ) → rejoined (pieces ys) ≡ ys
rejoined_pieces [] = refl
rejoined_pieces (y ∷ ys) = join_with_byte-slice_split sep (y ∷ ys)

-- there are no other pieces
pub only_pieces : (ys : List ℕ) (ds : List (List ℕ)) → list_all (list_all no_sep) ds ≡ true → rejoined ds ≡ ys → is_empty ys ≡ false → ds ≡ pieces ys
only_pieces ys [] h e s = absurd (both_ways (is_empty ys) s (sym (ap is_empty e)))
only_pieces ys (d ∷ ds) h e s = sym (cut_rejoined (d ∷ ds) refl h) ∙ ap cut e ∙ sym (pieces_some ys s)
