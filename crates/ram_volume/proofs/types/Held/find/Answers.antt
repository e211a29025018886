use Rattle.std.proofs.Common.{refl, inl, inr}
use Rattle.volume.specs.Calls.{Walk}
use Rattle.ram_volume.specs.Meaning.{ram_held}
use Rattle.ram_volume.proofs.Finding.{weaker}
use Rattle.ram_volume.proofs.types.Held.find.Goals as goal

pub returns-in-None : goal.returns-in-None
returns-in-None g c =
    let files = g.S.BlockStore.contents c.args.self.now.store in
    elim c.in-None.ensures [
      | inl d ↦ Walk.dotted d (record { answer = c.refusal.ensures; held = refl })
      | inr l ↦ Walk.lost l.front l.last l.split (l.nowhere files) (record { answer = c.refusal.ensures; held = refl })
    ]

pub returns-in-Some-Last : goal.returns-in-Some-Last
returns-in-Some-Last g c =
    let files = g.S.BlockStore.contents c.args.self.now.store in
    let contents = g.S.BlockStore.contents in
    let x = rw c.in-Some-Last.field-0-is at c.in-Some-Last.ensures in
    weaker (ram_held contents c.args.self.now) (ram_held contents c.find_last.new.self) _ _ _ c.find_last.result (λ a w e. Walk.ends x.front c.in-Some-Last.name.now c.in-Some-Last.d x.split x.plain (x.led files) (x.dir files) e) c.find_last.ensures
