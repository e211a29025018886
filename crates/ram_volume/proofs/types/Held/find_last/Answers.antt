use Rattle.std.proofs.Common.{inl, inr}
use Rattle.ram_volume.proofs.Finding.{created, looked}
use Rattle.ram_volume.proofs.types.Held.find_last.Goals as goal

pub returns-in-CreateReadWrite : goal.returns-in-CreateReadWrite
returns-in-CreateReadWrite g c =
    let v = c.args.self.now in
    created v.nodes.rows (g.S.BlockStore.contents v.store) v.handles.rows v.misused c.args.d c.args.name.now c.args.mode c.in-CreateReadWrite.is c.args.attribute.0 _
    c.create.result c.map_err.result c.requires c.create.ensures c.map_err.ensures.cases

pub returns-in-Read : goal.returns-in-Read
returns-in-Read g c =
    let v = c.args.self.now in
    rw c.ok_or.ensures.value (looked v.nodes.rows (g.S.BlockStore.contents v.store) v.handles.rows v.misused c.args.d c.args.name.now c.args.mode c.args.attribute.0
    c.entry.result c.refusal.result (λ e. elim c.in-Read.is [ inl p ↦ cc | inr p ↦ cc ]) c.entry.ensures.found c.refusal.ensures)
