use Rattle.std.proofs.Common.{◌≡◌, ℕ, Some, None, sym, refl, ap, ◌∙◌, subst, inl, inr}
use Rattle.std.proofs.lemmas.Bool.{both_ways, not-true, not-false}
use Rattle.std.proofs.lemmas.Bool.Decides.{not_from_Decides}
use Rattle.volume.specs.Calls.{Answer, Step, Through, Delete, Kept, delete, refused}
use Rattle.uefi_result.specs.StatusCodes.{warn_delete_failure}
use Rattle.volume.specs.State.{Held, State, closed, removed}
use Rattle.volume.specs.Tree.{Name, Nodes, Entry}
use Rattle.volume.specs.declared.handle.Handle.{Handle}
use Rattle.ram_volume.proofs.Standings.{renumbered}
use Rattle.ram_volume.specs.Meaning.{ram_held}
use Rattle.ram_volume.proofs.calls.RamVolumeVolume.delete.Goals.{then-not-at-via-then-not-at, then-not-at-via-else-not-at+then-elsewhere, then-not-at-via-else-not-at+else-elsewhere+then-not-remove}
use Rattle.ram_volume.proofs.calls.RamVolumeVolume.delete.Goals as goal

-- an entry that is there once a handle is closed was there before
entry_before : (v u : Held) (k n m : ℕ) (c : Name) → u ≡ closed k v → Entry u.nodes n c m → Entry v.nodes n c m
entry_before v u k n m c e f = subst (λ (t : Nodes). Entry t n c m) (ap (λ (x : Held). x.nodes) e) f

entry_after : (v u : Held) (k n m : ℕ) (c : Name) → u ≡ closed k v → Entry v.nodes n c m → Entry u.nodes n c m
entry_after v u k n m c e f = subst (λ (t : Nodes). Entry t n c m) (sym (ap (λ (x : Held). x.nodes) e)) f

-- a delete that keeps the node
kept : (v w : State) (k : ℕ) (h : Handle) (a : Answer) → v.due.status ≡ None → v.held.handles k ≡ Some h → Kept v.held k h → a ≡ refused warn_delete_failure 0 → w.held ≡ closed k v.held → w.reported ≡ v.reported → Step v (delete k) a w
kept v w k h a n o x e q r = record { does = Through.goes h o n (Delete.keeps x e q); reported = r }

pub returns-then-not-at-clause-step : goal.returns-then-not-at-clause-step
returns-then-not-at-clause-step g c =
    let contents = g.S.BlockStore.contents in
    let v = ram_held contents c.args.self.now.held in
    let u = ram_held contents c.end.new.self in
    let at = c.in-Some.at in
    let s = c.in-Some.ensures in
    elim c.then-not-at.branch [
      | then-not-at-via-then-not-at w ↦
          rw w.self-is (renumbered delete s.0 (kept _ _ at.number at.handle _ refl s.1.opened (Kept.may_not_write (not-true at.handle.writable w.if-not-at.true)) c.refusal.ensures c.end.ensures.held refl))
      | then-not-at-via-else-not-at+then-elsewhere w ↦ (
          let x = c.is_open_elsewhere-elsewhere.ensures.0 w.if-elsewhere.true in
          rw w.self-is (renumbered delete s.0 (kept _ _ at.number at.handle _ refl s.1.opened (Kept.open_elsewhere x.0 x.1 x.2 x.3 x.4) c.refusal.ensures c.end.ensures.held refl)))
      | then-not-at-via-else-not-at+else-elsewhere+then-not-remove w ↦ (
          let (why, same) = w.if-not-remove.ensures.held in
          rw w.self-is (renumbered delete s.0 (kept _ _ at.number at.handle _ refl s.1.opened
          (elim why [ inl z ↦ Kept.is_root z | inr (m, n, e) ↦ Kept.has_entries m n (entry_before v u at.number at.handle.node m n c.end.ensures.held e) ])
          c.refusal.ensures (same ∙ c.end.ensures.held) refl)))
    ]

pub returns-clause-step : goal.returns-clause-step
returns-clause-step g c =
    let contents = g.S.BlockStore.contents in
    let free = g.S.BlockStore.free in
    let v = ram_held contents c.args.self.now.held in
    let u = ram_held contents c.end.new.self in
    let at = c.in-Some.at in
    let s = c.in-Some.ensures in
    let (inner, childless, gone) = c.if-not-remove.ensures.held in
    renumbered delete s.0 (record {
      does = Through.goes at.handle s.1.opened refl (Delete.removes
          (λ kept. elim kept [
            | Kept.is_root z ↦ inner z
            | Kept.has_entries m n e ↦ childless m n (entry_after v u at.number at.handle.node m n c.end.ensures.held e)
            | Kept.open_elsewhere j x ne e q ↦ not_from_Decides _ c.is_open_elsewhere-elsewhere.ensures c.if-elsewhere.false (j, x, ne, e, q)
            | Kept.may_not_write e ↦ both_ways at.handle.writable e (not-false at.handle.writable c.if-not-at.false)
          ])
          refl (gone ∙ ap (removed at.handle.node) c.end.ensures.held));
      reported = refl;
    })
