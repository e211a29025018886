-- The laws of a volume, from the ways in which a call can leave it.
use Rattle.std.proofs.Common.{◌≡◌, ℕ, ◌⊎◌, Some, None, sym, refl, ap, ◌∙◌, subst, inl, inr}
use Rattle.volume.specs.Tree.{Node, Nodes, File, put}
use Rattle.volume.specs.State.{Held, State, closed, changed, created, overwritten}
use Rattle.volume.specs.Calls.{Call, close, delete, Answer, refused, itself, Through, Close, Kept, Delete, Step}
use Rattle.volume.specs.Soundness.{Sound}
use Rattle.volume.specs.Laws.{handle_of, Leaves, Changes, OneNode, VolumeLaws}
use Rattle.volume.specs.declared.handle.Handle.{Handle}
use Rattle.volume.proofs.Puts.{none_some, put_same, put_cases}
use Rattle.volume.proofs.Trees.{Leaf, Differ, turned, file_kept}
use Rattle.volume.proofs.Changes.{grown_differ, grown_tree, written_differ, written_tree, pruned_differ, pruned_tree}
use Rattle.volume.proofs.Sounding.{sound_misuse, sound_opened, sound_closed, sound_moved, sound_changed, sound_created, sound_removed}
use Rattle.volume.proofs.Effects.{Stood, Effect, accepted_refused, effect}

module _ (v : Held) (s : Sound v) where
  stood : (n : ℕ) → Stood v n → (x : Node) × (v.nodes n ≡ Some x)
  stood n (inl e) = (s.tree.rooted.node, subst (λ (i : ℕ). v.nodes i ≡ Some s.tree.rooted.node) (sym e) s.tree.rooted.there)
  stood n (inr x) = x

  -- a node that delete does not keep is a leaf
  removable : (k : ℕ) (h : Handle) → (Kept v k h → ⊥) → Leaf v.nodes h.node
  removable k h i n y z f g = i (Kept.has_entries n y.name (record { node = y; there = z; inner = f; parent = g; called = refl }))

  unheld : (k : ℕ) (h : Handle) → (Kept v k h → ⊥) → (j : ℕ) (g : Handle) → put v.handles k None j ≡ Some g → g.node ≡ h.node → ⊥
  unheld k h i j g e q = elim (put_cases v.handles k j None (Some g) e) [
    | inl z ↦ none_some refl z.1
    | inr z ↦ i (Kept.open_elsewhere j g z.0 z.1 q)
  ]

  keeps_effect : (capacity : ℕ → ℕ) (q : Call) (a : Answer) (w : Held) → Effect v capacity q a w → Sound w
  keeps_effect capacity q a w (Effect.nothing e) = subst Sound (sym e) s
  keeps_effect capacity q a w (Effect.flagged k n e x) = subst Sound (sym x) (sound_misuse v s)
  keeps_effect capacity q a w (Effect.opens k h e o r x) = subst Sound (sym x) (sound_opened v s k h e (stood h.node o))
  keeps_effect capacity q a w (Effect.makes j p t c d last dir free named n y made k h at e r x) =
      subst Sound (sym x) (sound_opened (created n y v)
      (sound_created v s n y made.free (grown_tree v.nodes s.tree d last t n y dir free named made)) k h e
      (y, subst (λ (i : ℕ). put v.nodes n (Some y) i ≡ Some y) (sym at) (put_same v.nodes n (Some y))))
  keeps_effect capacity q a w (Effect.ends k h c e f x) = subst Sound (sym x) (sound_closed v s k h e)
  keeps_effect capacity q a w (Effect.removes k h c e i r x) =
      let (y, there) = s.on_nodes k h e in
      subst Sound (sym x) (sound_removed (closed k v) (sound_closed v s k h e) h.node y there
      (pruned_tree v.nodes s.tree h.node (λ z. i (Kept.is_root z)) (removable k h i)) (unheld k h i))
  keeps_effect capacity q a w (Effect.moves k h p m bs e r x) = subst Sound (sym x) (sound_moved v s k h p e)
  keeps_effect capacity q a w (Effect.fills k bs h c e r) =
      subst Sound (sym r.held) (sound_moved (changed h.node _ v)
      (sound_changed v s h.node r.node _ r.there
      (written_tree v.nodes s.tree h.node r.node r.old (overwritten r.old h.position r.count bs) r.there r.content)) k h _ e)

  one_node : (q : Call) (x : ℕ) (w : Held) (t : Nodes) → w.nodes ≡ t → Changes v q x → Differ x v.nodes t → OneNode v q w
  one_node q x w t e by d = record {
    at = x;
    by = by;
    others = λ n h. ap (λ (f : Nodes). f n) e ∙ sym (d.same n h);
    kept = λ n p b h f. subst (λ (u : Nodes). File u n p b) (sym e) (file_kept d n p b h f);
    was = λ n p b h f. file_kept (turned d) n p b h (subst (λ (u : Nodes). File u n p b) e f);
  }

  changes_effect : (capacity : ℕ → ℕ) (q : Call) (a : Answer) (w : Held) → Effect v capacity q a w → (w.nodes ≡ v.nodes) ⊎ (OneNode v q w)
  changes_effect capacity q a w (Effect.nothing e) = inl (ap (λ (u : Held). u.nodes) e)
  changes_effect capacity q a w (Effect.flagged k n e x) = inl (ap (λ (u : Held). u.nodes) x)
  changes_effect capacity q a w (Effect.opens k h e o r x) = inl (ap (λ (u : Held). u.nodes) x)
  changes_effect capacity q a w (Effect.makes j p t c d last dir free named n y made k h at e r x) =
      inr (one_node q n w _ (ap (λ (u : Held). u.nodes) x) (Changes.makes j p t c made.free) (grown_differ v.nodes s.tree d last t n y dir free named made))
  changes_effect capacity q a w (Effect.ends k h c e f x) = inl (ap (λ (u : Held). u.nodes) x)
  changes_effect capacity q a w (Effect.removes k h c e i r x) =
      inr (one_node q h.node w _ (ap (λ (u : Held). u.nodes) x) (Changes.deletes k h c e refl) (pruned_differ v.nodes s.tree h.node (λ z. i (Kept.is_root z)) (removable k h i)))
  changes_effect capacity q a w (Effect.moves k h p m bs e r x) = inl (ap (λ (u : Held). u.nodes) x)
  changes_effect capacity q a w (Effect.fills k bs h c e r) =
      inr (one_node q h.node w _ (ap (λ (u : Held). u.nodes) r.held) (Changes.writes k bs h c e refl)
      (written_differ v.nodes s.tree h.node r.node r.old (overwritten r.old h.position r.count bs) r.there r.content))

refusals_effect : (v : Held) (capacity : ℕ → ℕ) (q : Call) (s l : ℕ) (w : Held) → Effect v capacity q (refused s l) w → Leaves v q s w
refusals_effect v capacity q s l w (Effect.nothing e) = Leaves.all e
refusals_effect v capacity q s l w (Effect.flagged k n e x) = Leaves.but_flag k n e x
refusals_effect v capacity q s l w (Effect.opens k h e o r x) = absurd (accepted_refused r refl)
refusals_effect v capacity q s l w (Effect.makes j p t c d last dir free named n y made k h at e r x) = absurd (accepted_refused r refl)
refusals_effect v capacity q s l w (Effect.ends k h c e f x) = Leaves.but_handle k (f s l refl) x
refusals_effect v capacity q s l w (Effect.removes k h c e i r x) = absurd (accepted_refused r refl)
refusals_effect v capacity q s l w (Effect.moves k h p m bs e r x) = absurd (accepted_refused r refl)
refusals_effect v capacity q s l w (Effect.fills k bs h c e r) = elim r.answer [
  | inl z ↦ absurd (accepted_refused z.1 refl)
  | inr z ↦ Leaves.but_bytes k bs c (let y = z.1 in cc)
]

unmisused_effect : (v : Held) (capacity : ℕ → ℕ) (q : Call) (a : Answer) (w : Held) → ((k : ℕ) → handle_of q ≡ Some k → v.handles k ≡ None → ⊥) → Effect v capacity q a w → w.misused ≡ v.misused
unmisused_effect v capacity q a w f (Effect.nothing e) = ap (λ (u : Held). u.misused) e
unmisused_effect v capacity q a w f (Effect.flagged k n e x) = absurd (f k n e)
unmisused_effect v capacity q a w f (Effect.opens k h e o r x) = ap (λ (u : Held). u.misused) x
unmisused_effect v capacity q a w f (Effect.makes j p t c d last dir free named n y made k h at e r x) = ap (λ (u : Held). u.misused) x
unmisused_effect v capacity q a w f (Effect.ends k h c e g x) = ap (λ (u : Held). u.misused) x
unmisused_effect v capacity q a w f (Effect.removes k h c e i r x) = ap (λ (u : Held). u.misused) x
unmisused_effect v capacity q a w f (Effect.moves k h p m bs e r x) = ap (λ (u : Held). u.misused) x
unmisused_effect v capacity q a w f (Effect.fills k bs h c e r) = ap (λ (u : Held). u.misused) r.held

closes : (v w : State) (k : ℕ) (h : Handle) (a : Answer) → v.held.handles k ≡ Some h → Step v (close k) a w → w.held.handles ≡ put v.held.handles k None
closes v w k h a e st = go st.does
  where
    go : Close v.held k a w.held → w.held.handles ≡ put v.held.handles k None
    go (Close.misused n r x) = absurd (none_some n e)
    go (Close.closes g o r x) = ap (λ (u : Held). u.handles) x

deletes : (v w : State) (k : ℕ) (h : Handle) (a : Answer) → v.held.handles k ≡ Some h → Step v (delete k) a w → w.held.handles ≡ put v.held.handles k None
deletes v w k h a e st = go st.does
  where
    ended : (g : Handle) → Delete v.held k g a w.held → w.held.handles ≡ put v.held.handles k None
    ended g (Delete.keeps i r x) = ap (λ (u : Held). u.handles) x
    ended g (Delete.removes i r x) = ap (λ (u : Held). u.handles) x

    go : Through v.held v.due.status k itself (closed k v.held) (Delete v.held k) a w.held → w.held.handles ≡ put v.held.handles k None
    go (Through.misused n r x) = absurd (none_some n e)
    go (Through.due g s o d r x) = ap (λ (u : Held). u.handles) x
    go (Through.goes g o d x) = ended g x

pub laws : VolumeLaws
laws = record {
  keeps = λ v w q a s st. keeps_effect v.held s v.capacity q a w.held (effect v w q a st);
  refusals = λ v w q s l st. refusals_effect v.held v.capacity q s l w.held (effect v w q (refused s l) st);
  changes = λ v w q a s st. changes_effect v.held s v.capacity q a w.held (effect v w q a st);
  closes = closes;
  deletes = deletes;
  unmisused = λ v w q a f st. unmisused_effect v.held v.capacity q a w.held f (effect v w q a st);
}
