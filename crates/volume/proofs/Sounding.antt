-- A volume stays sound as it changes.
use Rattle.std.proofs.Common.{◌≡◌, ℕ, Some, None, sym, refl, ◌∙◌, subst, inl, inr}
use Rattle.std.proofs.lemmas.Bool.{cases_eq}
use Rattle.volume.specs.Tree.{Node, Tree, put}
use Rattle.volume.specs.State.{Held, misuse, opened, closed, moved, changed, created, removed}
use Rattle.volume.specs.Soundness.{Sound}
use Rattle.volume.specs.declared.handle.Handle.{Handle}
use Rattle.volume.proofs.Puts.{none_some, some_same, put_same, put_other, put_cases}
use Rattle.volume.proofs.Counting.{counts_more, counts_less, counts_same}

module _ (s : Held) (o : Sound s) where
  pub sound_misuse : Sound (misuse s)
  sound_misuse = record { tree = o.tree; on_nodes = o.on_nodes; nodes_counted = o.nodes_counted; handles_counted = o.handles_counted }

  pub sound_opened : (k : ℕ) (h : Handle) → s.handles k ≡ None → (x : Node) × (s.nodes h.node ≡ Some x) → Sound (opened k h s)
  sound_opened k h e there = record {
    tree = o.tree;
    on_nodes = λ j g q. elim (put_cases s.handles k j (Some h) (Some g) q) [
      | inl z ↦ subst (λ (i : Handle). (x : Node) × (s.nodes i.node ≡ Some x)) (some_same refl z.1) there
      | inr z ↦ o.on_nodes j g z.1
    ];
    nodes_counted = o.nodes_counted;
    handles_counted = counts_more s.handles k h s.handle_count e o.handles_counted;
  }

  pub sound_closed : (k : ℕ) (h : Handle) → s.handles k ≡ Some h → Sound (closed k s)
  sound_closed k h e = record {
    tree = o.tree;
    on_nodes = λ j g q. elim (put_cases s.handles k j None (Some g) q) [
      | inl z ↦ absurd (none_some refl z.1)
      | inr z ↦ o.on_nodes j g z.1
    ];
    nodes_counted = o.nodes_counted;
    handles_counted = counts_less s.handles k h s.handle_count e o.handles_counted;
  }

  pub sound_moved : (k : ℕ) (h : Handle) (p : ℕ) → s.handles k ≡ Some h → Sound (moved k h p s)
  sound_moved k h p e = record {
    tree = o.tree;
    on_nodes = λ j g q. elim (put_cases s.handles k j _ (Some g) q) [
      | inl z ↦ subst (λ (i : Handle). (x : Node) × (s.nodes i.node ≡ Some x)) (some_same refl z.1) (o.on_nodes k h e)
      | inr z ↦ o.on_nodes j g z.1
    ];
    nodes_counted = o.nodes_counted;
    handles_counted = counts_same s.handles k h _ s.handle_count e o.handles_counted;
  }

  -- a number of which the node is there still has one where another node is put
  still : (n : ℕ) (y : Node) (m : ℕ) → (x : Node) × (s.nodes m ≡ Some x) → (x : Node) × (put s.nodes n (Some y) m ≡ Some x)
  still n y m (x, e) = elim (cases_eq m n) [
    | inl z ↦ (y, subst (λ (i : ℕ). put s.nodes n (Some y) i ≡ Some y) (sym z) (put_same s.nodes n (Some y)))
    | inr z ↦ (x, put_other s.nodes n m (Some y) z ∙ e)
  ]

  pub sound_changed : (n : ℕ) (x y : Node) → s.nodes n ≡ Some x → Tree (put s.nodes n (Some y)) → Sound (changed n y s)
  sound_changed n x y e t = record {
    tree = t;
    on_nodes = λ j g q. still n y g.node (o.on_nodes j g q);
    nodes_counted = counts_same s.nodes n x y s.node_count e o.nodes_counted;
    handles_counted = o.handles_counted;
  }

  pub sound_created : (n : ℕ) (y : Node) → s.nodes n ≡ None → Tree (put s.nodes n (Some y)) → Sound (created n y s)
  sound_created n y e t = record {
    tree = t;
    on_nodes = λ j g q. still n y g.node (o.on_nodes j g q);
    nodes_counted = counts_more s.nodes n y s.node_count e o.nodes_counted;
    handles_counted = o.handles_counted;
  }

  pub sound_removed : (n : ℕ) (x : Node) → s.nodes n ≡ Some x → Tree (put s.nodes n None) → ((j : ℕ) (g : Handle) → s.handles j ≡ Some g → g.node ≡ n → ⊥) → Sound (removed n s)
  sound_removed n x e t unheld = record {
    tree = t;
    on_nodes = λ j g q. let (y, z) = o.on_nodes j g q in (y, put_other s.nodes n g.node None (unheld j g q) ∙ z);
    nodes_counted = counts_less s.nodes n x s.node_count e o.nodes_counted;
    handles_counted = o.handles_counted;
  }
