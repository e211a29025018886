use Rattle.std.proofs.Common.{drop, ap, ◌∙◌, arith}
use Rattle.uefi_info.specs.Parsed.{written, from_uefi}
use Rattle.uefi_info.specs.Records.{record_bytes}
use Rattle.uefi_info.proofs.Building.{answer_is, bytes_are, header_ok}
use Rattle.uefi_info.proofs.RecordTrips.{read_built, text_no_nul}
use Rattle.uefi_info.proofs.info.build.Goals as goal

pub returns : goal.returns
returns g c =
    let old = c.args.storage.now in
    let name = c.args.name.now in
    let h = c.args.header.now in
    let hb = g.T.InfoInternal.header_bytes h in
    let off = g.T.InfoInternal.offset in
    let al = g.T.Align.align in
    let o = c.name_offset-offset.result in
    let needed = c.record_length-needed.result in
    let sized = g.met.T.InfoInternal.sized h in
    let at = c.name_offset-offset.ensures in
    let nd = c.record_length-needed.ensures in
    let room = c.if-storage-needed.false in
    let value = answer_is old name hb off al o needed sized at nd room c.in_default.ensures.value in
    let now = bytes_are old name hb off al o needed sized at nd room c.write_header.new.out c.put_units.new.out c.write_header.ensures.after c.put_units.ensures c.fill.new.self (c.fill.ensures.after (λ y e. e)) in
    let fits = header_ok old off o c.write_header.result at (omega arith) c.write_header.ensures.value in
    record {
      value = value;
      after = now ∙ ap (λ r. written (record_bytes al hb name) r old) value;
      back = λ w l.
          ap (λ b. from_uefi g.T.InfoInternal.header_of off al b w) now ∙
          read_built g.T.InfoInternal.header_of h hb name off al sized (rw fits at c.write_header.ensures.back) (λ i. (c.type_inv.name i).fits) (text_no_nul name c.in_default.ensures.law) (drop needed old) w l;
    }
