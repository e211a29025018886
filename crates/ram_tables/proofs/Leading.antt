-- How a path's components lead from directory to directory.
use Rattle.std.proofs.Common.{◌≡◌, ℕ, Bool, true, false, cond, ◌⊎◌, List, [], ◌∷◌, ◌++◌, reverse, Some, None, Option, sym, refl, ap, ◌∙◌, subst, inl, inr, append_assoc}
use mathlib.Core.List.{reverse-cons}
use mathlib.Core.Logic.{∥∥₁_elim}
use mathlib.Core.HLevel.{⊥_prop}
use Rattle.std.proofs.lemmas.Bool.{and_parts, and_from, cases_Bool, both_ways}
use Rattle.uefi_types.proofs.Tested.{all_right}
use Rattle.volume.specs.Calls.{undotted}
use Rattle.volume.specs.Tree.{Name, Route, Nodes, is_dots, directory, Holds, Entry, Leads, Tree}
use Rattle.volume.proofs.Trees.{one_node}
use Rattle.ram_tables.specs.Tables.{tree_of, Whole}
use Rattle.ram_tables.specs.Lookups.{StepsTo, Lost}
use Rattle.ram_tables.specs.declared.rows.Row.{Row}

-- a component that is not "." or ".."
abbrev plain_name : Name → Bool
plain_name c = cond (is_dots c) false true

plain_of : (c : Name) → is_dots c ≡ false → plain_name c ≡ true
plain_of c e = ap (λ (b : Bool). cond b false true) e

dots_of : (c : Name) → is_dots c ≡ true → plain_name c ≡ false
dots_of c e = ap (λ (b : Bool). cond b false true) e

-- one component that is "." or ".." is enough
pub dotted_at : (x : Route) (c : Name) (s : Route) → is_dots c ≡ true → undotted (x ++ (c ∷ s)) ≡ false
dotted_at x c s e = elim (cases_Bool (undotted (x ++ (c ∷ s)))) [
  | inl h ↦ absurd (both_ways (plain_name c) (dots_of c e) (and_parts (plain_name c) (undotted s) (all_right plain_name x (c ∷ s) h)).0)
  | inr h ↦ h
]

-- the head of a route, with what is known to stand at its end
heads : (x : Route) (next : Name) (s : Route) → (h : Name) × (m : Route) × (x ++ (next ∷ s) ≡ h ∷ (m ++ s))
heads [] next s = (next, [], refl)
heads (c ∷ x) next s = (c, x ++ (next ∷ []), ap (λ (r : Route). c ∷ r) (sym (append_assoc x (next ∷ []) s)))

-- a route that leads to a directory has led through one at each earlier place
through : (t : Nodes) → Tree t → (from : ℕ) (r p : Route) (n : ℕ) → Leads t from (r ++ p) n → Holds t n directory → (m : ℕ) × Leads t from p m × Holds t m directory
through t s from [] p n l h = (n, l, h)
through t s from (c ∷ r) p n (m, e, l) h = through t s from r p m l (subst (λ (k : ℕ). Holds t k directory) e.parent (s.parents n e.node e.there e.inner))

-- so far: the components before `last` lead to d, and `rest` is to come
pub record Walking (rows : List (Option Row)) (from : ℕ) (parts : List Name) (last : Name) (rest : List Name) (d : ℕ) : Type 0 where
  pub front : Route
  pub split : reverse parts ≡ reverse rest ++ (last ∷ front)
  pub plain : undotted front ≡ true
  pub led : (bytes : ℕ → List ℕ) → Leads (tree_of rows bytes) from front d
  pub dir : (bytes : ℕ → List ℕ) → Holds (tree_of rows bytes) d directory

module _ (rows : List (Option Row)) (from : ℕ) where
  module _ (parts : List Name) (last : Name) (rest : List Name) (d : ℕ) (w : Walking rows from parts last rest d) where
    -- the next component comes, and `last` joins those before it
    split_on : (next : Name) (rest' : List Name) → rest ≡ next ∷ rest' → reverse parts ≡ reverse rest' ++ (next ∷ (last ∷ w.front))
    split_on next rest' e =
        w.split ∙ (ap (λ (r : List Name). reverse r ++ (last ∷ w.front)) e
        ∙ (ap (λ (r : List Name). r ++ (last ∷ w.front)) (reverse-cons next rest') ∙ append_assoc (reverse rest') (next ∷ []) (last ∷ w.front)))

    pub walking_on : (next : Name) (rest' : List Name) → rest ≡ next ∷ rest' → (n : ℕ) → StepsTo rows d last (Some n) → Walking rows from parts next rest' n
    walking_on next rest' e n s = record {
      front = last ∷ w.front;
      split = split_on next rest' e;
      plain = and_from (plain_name last) (undotted w.front) (plain_of last s.0) w.plain;
      led = λ bytes. (d, (s.1 bytes).0, w.led bytes);
      dir = λ bytes. (s.1 bytes).1;
    }

    pub walking_lost : ∥ Whole rows ∥₁ → (next : Name) (rest' : List Name) → rest ≡ next ∷ rest' → StepsTo rows d last None → (undotted (reverse parts) ≡ false) ⊎ Lost rows from (reverse parts)
    walking_lost whole next rest' e (inl dots) =
        inl (ap undotted (split_on next rest' e ∙ sym (append_assoc (reverse rest') (next ∷ []) (last ∷ w.front))) ∙ dotted_at (reverse rest' ++ (next ∷ [])) last w.front dots)
    walking_lost whole next rest' e (inr none) =
        let (h, m, z) = heads (reverse rest') next (last ∷ w.front) in
        inr record {
          front = m ++ (last ∷ w.front);
          last = h;
          split = split_on next rest' e ∙ z;
          nowhere = λ bytes n l g. ∥∥₁_elim whole ⊥_prop (λ s.
              let (k, (i, f, r), q) = through (tree_of rows bytes) (s.tree bytes) from m (last ∷ w.front) n l g in
              none bytes k (subst (λ (j : ℕ). Entry (tree_of rows bytes) j last k) (one_node (tree_of rows bytes) (s.tree bytes) from w.front i d r (w.led bytes)) f) q);
        }

  -- a node that is no directory leads nowhere
  pub nowhere_from : (c : Name) (rest : List Name) → ∥ Whole rows ∥₁ → ((bytes : ℕ → List ℕ) → Holds (tree_of rows bytes) from directory → ⊥) → Lost rows from (reverse (c ∷ rest))
  nowhere_from c rest whole none =
      let (h, m, z) = heads (reverse rest) c [] in
      record {
        front = m ++ [];
        last = h;
        split = reverse-cons c rest ∙ z;
        nowhere = λ bytes n l g. ∥∥₁_elim whole ⊥_prop (λ s.
            let (k, f, q) = through (tree_of rows bytes) (s.tree bytes) from m [] n l g in none bytes (subst (λ (j : ℕ). Holds (tree_of rows bytes) j directory) f q));
      }
