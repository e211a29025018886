use Rattle.std.proofs.Common.{Option, Bor, sym, ap, ◌∙◌, arith}
use Rattle.std.specs.Option.{option_copied}
use Rattle.uefi_types.specs.Units.{is_text}
use Rattle.block_store.specs.Slots.{reach_small}
use Rattle.ram_tables.specs.declared.rows.Row.{Row}
use Rattle.ram_volume.proofs.Tellings.{told_text}
use Rattle.ram_volume.proofs.types.Held.about.Goals as goal

pub directory-requires : goal.directory-requires
directory-requires g c =
    let v = c.args.self.now in
    let e = sym c.row.ensures.is ∙ ap (λ (o : Option (Bor Row)). option_copied o) c.unwrap-row.ensures in
    ap is_text c.name_of-name.ensures ∙ told_text v.nodes.rows v.nodes.whole c.args.n c.unwrap-row.result.now e

pub file-requires : goal.file-requires
file-requires g c =
    let v = c.args.self.now in
    let s = v.store in
    let laws = g.met.S.BlockStore in
    let e = sym c.row.ensures.is ∙ ap (λ (o : Option (Bor Row)). option_copied o) c.unwrap-row.ensures in
    record {
      small = omega (arith, c.len.ensures, reach_small (g.S.BlockStore.contents s) (g.S.BlockStore.free s) (g.S.BlockStore.blocks s) (laws.slots s) (laws.limits s).1 (laws.whole s) c.args.n);
      text = ap is_text c.name_of-name.ensures ∙ told_text v.nodes.rows v.nodes.whole c.args.n c.unwrap-row.result.now e;
    }
