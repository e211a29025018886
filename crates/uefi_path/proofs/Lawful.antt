-- The laws of paths.
use Rattle.std.proofs.Common.{◌≡◌, ℕ, Bool, true, false, cond, not, ◌&&◌, eqb, List, [], ◌∷◌, ◌++◌, is_some, is_ok, Some, None, Ok, Err, Option, Result, sym, refl, ap, ◌∙◌, append_assoc}
use Rattle.std.specs.List.{list_all}
use Rattle.std.specs.Option.{option_map, option_or}
use Rattle.std.proofs.lemmas.Bool.{eqb-true, and_parts, and_from, not-true, cond-false, both_ways}
use Rattle.uefi_types.specs.Refusal.{Refusal, refusal_of}
use Rattle.uefi_path.specs.Components.{sep, cut, pieces, unled, components, rejoined}
use Rattle.uefi_path.specs.Parents.{no_slash, turned, is_empty, joined_to, but_last, pushed}
use Rattle.uefi_path.specs.Validity.{denied, illegal_char, first_denied, fault_of, first_fault, validate}
use Rattle.uefi_path.specs.Laws.{Cutting, named, valid, led, Sameness, JoinOf, WorkedExamples}
use Rattle.uefi_path.proofs.Alike.{texts_decided}
use Rattle.uefi_path.proofs.Cuts.{cut_append, pieces_some, pieces_bare, rejoined_pieces, only_pieces}
use Rattle.uefi_path.proofs.Named.{all_slashless, rejoined_slashless, joined_named, components_rejoined}
use Rattle.uefi_path.proofs.Pushes.{turned_same, push_behind}
use Rattle.uefi_path.proofs.Spreads.{all_but_last}

pub cutting : (us : List ℕ) → Cutting us (components us)
cutting us = record { bare = pieces_bare (unled us); whole = rejoined_pieces (unled us); only = only_pieces (unled us) }

unled_bare : (us : List ℕ) → led us ≡ false → unled us ≡ us
unled_bare [] h = refl
unled_bare (u ∷ us) h = cond-false _ _ _ h

pub sameness : Sameness
sameness = record {
  decided = λ us vs. texts_decided (components us) (components vs) _ refl;
  itself = λ us. refl;
  back = λ us vs e. sym e;
  along = λ us vs ws e f. e ∙ f;
  lead = λ us h. ap pieces (sym (unled_bare us h));
}

-- a path passes validation exactly if it is valid
undenied_none : (us : List ℕ) → not (is_some (first_denied us)) ≡ list_all (λ u. not (denied u)) us
undenied_none [] = refl
undenied_none (u ∷ us) = by (denied u) (undenied_none us)
  where
    by : (b : Bool) → not (is_some (first_denied us)) ≡ list_all (λ v. not (denied v)) us → not (is_some (cond b (Some u) (first_denied us))) ≡ (not b && list_all (λ v. not (denied v)) us)
    by true h = refl
    by false h = h

mapped_some : {X Y : Type 0} (f : X → Y) (o : Option X) → is_some (option_map f o) ≡ is_some o
mapped_some f None = refl
mapped_some f (Some x) = refl

faultless : (c : List ℕ) → not (is_some (fault_of c)) ≡ named c
faultless [] = refl
faultless (u ∷ us) = ap not (mapped_some illegal_char (first_denied (u ∷ us))) ∙ undenied_none (u ∷ us)

all_faultless : (cs : List (List ℕ)) → not (is_some (first_fault cs)) ≡ list_all named cs
all_faultless [] = refl
all_faultless (c ∷ cs) = by (fault_of c) (first_fault cs) ∙ ap (λ b. b && not (is_some (first_fault cs))) (faultless c) ∙ ap (λ b. named c && b) (all_faultless cs)
  where
    by : (o p : Option Refusal) → not (is_some (option_or o p)) ≡ (not (is_some o) && not (is_some p))
    by None p = refl
    by (Some x) p = refl

validated : (us : List ℕ) → not (is_some (validate us)) ≡ valid us
validated [] = refl
validated (u ∷ us) = all_faultless (components (u ∷ us))

pub passes : {X E : Type 0} (numbered : E → Refusal) (r : Result X E) (us : List ℕ) → refusal_of numbered r ≡ validate us → is_ok r ≡ valid us
passes {X} {E} numbered r us e = by r ∙ ap (λ o. not (is_some o)) e ∙ validated us
  where
    by : (s : Result X E) → is_ok s ≡ not (is_some (refusal_of numbered s))
    by (Ok x) = refl
    by (Err x) = refl

valid_named : (us : List ℕ) → valid us ≡ true → list_all named (components us) ≡ true
valid_named us h = (and_parts (not (is_empty us)) _ h).1

valid_some : (us : List ℕ) → valid us ≡ true → is_empty us ≡ false
valid_some us h = not-true (is_empty us) (and_parts (not (is_empty us)) _ h).0

-- the parent's components are those but the last
pub parents : (us : List ℕ) → valid us ≡ true → components (turned (joined_to [] (but_last (components us)))) ≡ but_last (components us)
parents us h =
    let cs = but_last (components us) in
    let n = all_but_last named (components us) (valid_named us h) in
    ap (λ z. components (turned z)) (joined_named cs n)
    ∙ ap components (turned_same (rejoined cs) (rejoined_slashless cs (all_slashless cs n))) ∙ components_rejoined cs n

-- a valid path has no `/`
valid_slashless : (us : List ℕ) → valid us ≡ true → list_all no_slash us ≡ true
valid_slashless us h = by us (ap (list_all no_slash) (sym (rejoined_pieces (unled us))) ∙ rejoined_slashless (components us) (all_slashless (components us) (valid_named us h)))
  where
    by : (vs : List ℕ) → list_all no_slash (unled vs) ≡ true → list_all no_slash vs ≡ true
    by [] k = refl
    by (v ∷ vs) k = at (eqb v sep) refl k
      where
        at : (b : Bool) → eqb v sep ≡ b → list_all no_slash (cond b vs (v ∷ vs)) ≡ true → list_all no_slash (v ∷ vs) ≡ true
        at true e l = and_from _ _ (ap no_slash (eqb-true v sep e)) l
        at false e l = l

unled_append : (us vs : List ℕ) → is_empty us ≡ false → unled (us ++ vs) ≡ unled us ++ vs
unled_append [] vs s = absurd (both_ways true s refl)
unled_append (u ∷ us) vs s = by (eqb u sep)
  where
    by : (b : Bool) → cond b (us ++ vs) (u ∷ (us ++ vs)) ≡ cond b us (u ∷ us) ++ vs
    by true = refl
    by false = refl

pieces_from : (ys : List ℕ) → is_empty (pieces ys) ≡ false → is_empty ys ≡ false
pieces_from [] s = s
pieces_from (y ∷ ys) s = refl

longer : (xs ys : List ℕ) → is_empty xs ≡ false → is_empty (xs ++ ys) ≡ false
longer [] ys l = absurd (both_ways true l refl)
longer (x ∷ xs) ys l = refl

pushed_plain : (us vs : List ℕ) → is_empty us ≡ false → is_empty vs ≡ false → list_all no_slash us ≡ true → list_all no_slash vs ≡ true → pushed us vs ≡ us ++ sep ∷ vs
pushed_plain us vs su sv hu hv =
    sym (push_behind us vs sv su hu) ∙ ap (λ z. (us ++ sep ∷ []) ++ z) (turned_same vs hv) ∙ append_assoc us (sep ∷ []) vs

-- a path pushed behind another gives the components of both
pub pushes : (us vs : List ℕ) → JoinOf us vs (pushed us vs)
pushes us vs hu hv some bare =
    let su = valid_some us hu in
    let sv = valid_some vs hv in
    let front = pieces_from (unled us) some in
    ap components (pushed_plain us vs su sv (valid_slashless us hu) (valid_slashless vs hv)) ∙ ap pieces (unled_append us (sep ∷ vs) su)
    ∙ pieces_some (unled us ++ sep ∷ vs) (longer (unled us) (sep ∷ vs) front) ∙ cut_append (unled us) vs
    ∙ ap (λ z. z ++ cut vs) (sym (pieces_some (unled us) front))
    ∙ ap (λ z. components us ++ z) (sym (ap pieces (unled_bare vs bare) ∙ pieces_some vs sv))

-- the same of lists that are known to be those
pub cutting_of : (us : List ℕ) (cs : List (List ℕ)) → cs ≡ components us → Cutting us cs
cutting_of us cs e = rw e (cutting us)

pub pushes_of : (us vs ws : List ℕ) → ws ≡ pushed us vs → JoinOf us vs ws
pushes_of us vs ws e hu hv some bare = ap components e ∙ pushes us vs hu hv some bare

pub examples : WorkedExamples
examples = (refl, refl, refl, refl, refl, refl)
