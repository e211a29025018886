-- The three changes that a volume's call makes in a tree.
use Rattle.std.proofs.Common.{◌≡◌, ℕ, true, List, [], ◌∷◌, Some, None, sym, refl, ap, ◌∙◌, subst, inl, inr}
use Rattle.std.proofs.lemmas.Bool.{cases_eq}
use Rattle.volume.specs.Tree.{Name, Route, Content, directory, file, Node, Nodes, root, is_name, Holds, Entry, Leads, Tree, put}
use Rattle.volume.specs.Calls.{Made}
use Rattle.volume.proofs.Puts.{none_some, some_same, put_same}
use Rattle.volume.proofs.Trees.{Leaf, Differ, holds_kept, leads_kept, one_kind, file_leaf, free_leaf, Fits, put_differ, put_tree}

leads_at : (t : Nodes) (d : ℕ) (p : Route) (m n : ℕ) → m ≡ n → Leads t d p m → Leads t d p n
leads_at t d p m n e l = subst (λ (k : ℕ). Leads t d p k) e l

-- a node came
module _ (t : Nodes) (s : Tree t) (d : ℕ) (last : Name) (a x : ℕ) (y : Node) (dir : Holds t d directory) (free : (n : ℕ) → Entry t d last n → ⊥) (named : is_name last ≡ true) (made : Made t d last a x y) where
  pub not_x : (k : ℕ) (c : Content) → Holds t k c → k ≡ x → ⊥
  not_x k c h e = none_some made.free (subst (λ (i : ℕ). t i ≡ Some h.node) e h.there)

  grown_inner : x ≡ root → ⊥
  grown_inner e = not_x root directory s.rooted (sym e)

  grown_fits : (z : Node) → Some y ≡ Some z → Fits t x z
  grown_fits z e = subst (λ (z : Node). Fits t x z) (some_same refl e) record {
    dir = subst (λ (k : ℕ). Holds t k directory) (sym made.parent) dir;
    elsewhere = λ q. not_x d directory dir (sym made.parent ∙ q);
    above = made.above;
    proper = ap is_name made.name ∙ named;
    name_apart = λ n w q h i pe ne. free n (record { node = w; there = q; inner = i; parent = sym pe ∙ made.parent; called = sym ne ∙ made.name });
    place_apart = λ n w q h i pe le. made.apart n w q i (sym pe ∙ made.parent) (sym le);
  }

  pub grown_differ : Differ x t (put t x (Some y))
  grown_differ = put_differ t s x (Some y) (free_leaf t s x made.free) grown_inner grown_fits

  pub grown_tree : Tree (put t x (Some y))
  grown_tree = put_tree t s x (Some y) (free_leaf t s x made.free) grown_inner grown_fits

  -- the node that came is found at its path
  pub grown_leads : (from : ℕ) (front : Route) → Leads t from front d → Leads (put t x (Some y)) from (last ∷ front) x
  grown_leads from front led = (
    d,
    record { node = y; there = put_same t x (Some y); inner = grown_inner; parent = made.parent; called = made.name },
    leads_kept grown_differ from front d (not_x d directory dir) led,
  )

-- a file was written
module _ (t : Nodes) (s : Tree t) (x : ℕ) (z : Node) (old new : List ℕ) (there : t x ≡ Some z) (was : z.content ≡ file old) where
  abbrev pub rewritten : Node
  rewritten = record z { content = file new }

  was_file : Holds t x (file old)
  was_file = record { node = z; there = there; content = was }

  written_inner : x ≡ root → ⊥
  written_inner e = one_kind t x old (subst (λ (k : ℕ). Holds t k directory) (sym e) s.rooted) was_file

  written_fits : (y : Node) → Some rewritten ≡ Some y → Fits t x y
  written_fits y e = subst (λ (y : Node). Fits t x y) (some_same refl e) record {
    dir = s.parents x z there written_inner;
    elsewhere = λ q. one_kind t x old (subst (λ (k : ℕ). Holds t k directory) q (s.parents x z there written_inner)) was_file;
    above = s.places_above x z there written_inner;
    proper = s.named x z there written_inner;
    name_apart = λ n w q h i pe ne. h (s.names_apart w.parent n x w.name (record { node = w; there = q; inner = i; parent = refl; called = refl })
        (record { node = z; there = there; inner = written_inner; parent = pe; called = ne }));
    place_apart = λ n w q h i pe le. h (s.places_apart n x w z q there i written_inner (sym pe) (sym le));
  }

  pub written_differ : Differ x t (put t x (Some rewritten))
  written_differ = put_differ t s x (Some rewritten) (file_leaf t s x old was_file) written_inner written_fits

  pub written_tree : Tree (put t x (Some rewritten))
  written_tree = put_tree t s x (Some rewritten) (file_leaf t s x old was_file) written_inner written_fits

  at_x : (d : ℕ) (p : Route) → Leads t d p x → Leads (put t x (Some rewritten)) d p x
  at_x d [] e = e
  at_x d (c ∷ p) (m, e, l) =
      let same : e.node ≡ z = some_same e.there there in (
        m,
        record { node = rewritten; there = put_same t x (Some rewritten); inner = e.inner; parent = sym (ap (λ (k : Node). k.parent) same) ∙ e.parent; called = sym (ap (λ (k : Node). k.name) same) ∙ e.called },
        leads_kept written_differ d p m (λ q. file_leaf t s x old was_file x e.node e.there e.inner (e.parent ∙ q)) l,
      )

  -- every path leads where it led, that of the file too
  pub written_leads : (d : ℕ) (p : Route) (n : ℕ) → Leads t d p n → Leads (put t x (Some rewritten)) d p n
  written_leads d p n l = elim (cases_eq n x) [
    | inl e ↦ leads_at (put t x (Some rewritten)) d p x n (sym e) (at_x d p (leads_at t d p n x e l))
    | inr e ↦ leads_kept written_differ d p n e l
  ]

  -- every directory is one still
  pub written_holds : (n : ℕ) → Holds t n directory → Holds (put t x (Some rewritten)) n directory
  written_holds n h = holds_kept written_differ n directory (λ e. one_kind t x old (subst (λ (k : ℕ). Holds t k directory) e h) was_file) h

-- a node went
module _ (t : Nodes) (s : Tree t) (x : ℕ) (inner : x ≡ root → ⊥) (leaf : Leaf t x) where
  no_fit : (z : Node) → None ≡ Some z → Fits t x z
  no_fit z e = absurd (none_some refl e)

  pub pruned_differ : Differ x t (put t x None)
  pruned_differ = put_differ t s x None leaf inner no_fit

  pub pruned_tree : Tree (put t x None)
  pruned_tree = put_tree t s x None leaf inner no_fit
