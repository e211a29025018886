use Rattle.std.proofs.Common.{◌≡◌, ℕ, List, Option, Result, sym, subst}
use Rattle.uefi_types.specs.LittleEndian.{AreBytes}
use Rattle.uefi_info.specs.Parsed.{from_uefi, Reads}
use Rattle.uefi_info.proofs.Parsing.{no_name, too_small, enough, again, one_unit}
use Rattle.uefi_info.proofs.RecordTrips.{reads}
use Rattle.uefi_info.proofs.info.from_uefi.Goals as goal

-- an answer that equals the definition has its meaning
meant : {H : Type 0} (header_of : List ℕ → H) (off al : ℕ) (bytes : List ℕ) (written : ℕ) (r : Result (H × List ℕ) (ℕ × Option ℕ)) → AreBytes bytes → r ≡ from_uefi header_of off al bytes written → Reads off al bytes written r
meant header_of off al bytes written r typed e = subst (Reads off al bytes written) (sym e) (reads header_of off al bytes written typed)

pub returns-in_default : goal.returns-in_default
returns-in_default g c =
    let bytes = c.args.buffer.now in
    let header_of = g.T.InfoInternal.header_of in
    let off = g.T.InfoInternal.offset in
    let al = g.T.Align.align in
    let w = c.args.written in
    let typed : AreBytes bytes = λ i. (c.type_inv.buffer i).fits in
    let name = rw c.name_offset-offset.ensures at c.trusted.ensures in
    let value = no_name header_of off al bytes w _ name c.in_default.ensures.value in
    record { value = value; law = meant header_of off al bytes w _ typed value; back = tt; one_unit_name = one_unit header_of off al bytes w _ value }

pub returns-then-buffer-needed : goal.returns-then-buffer-needed
returns-then-buffer-needed g c =
    let bytes = c.args.buffer.now in
    let header_of = g.T.InfoInternal.header_of in
    let off = g.T.InfoInternal.offset in
    let al = g.T.Align.align in
    let w = c.args.written in
    let typed : AreBytes bytes = λ i. (c.type_inv.buffer i).fits in
    let name = rw c.name_offset-offset.ensures at c.trusted.ensures in
    let value = too_small header_of off al bytes w _ name c.in-Some.units c.record_length-needed.result c.in-Some.ensures.value c.record_length-needed.ensures c.if-buffer-needed.true in
    record { value = value; law = meant header_of off al bytes w _ typed value; back = tt; one_unit_name = one_unit header_of off al bytes w _ value }

pub returns : goal.returns
returns g c =
    let bytes = c.args.buffer.now in
    let header_of = g.T.InfoInternal.header_of in
    let off = g.T.InfoInternal.offset in
    let al = g.T.Align.align in
    let w = c.args.written in
    let typed : AreBytes bytes = λ i. (c.type_inv.buffer i).fits in
    let name = rw c.name_offset-offset.ensures at c.trusted.ensures in
    let value = enough header_of off al bytes w _ name c.in-Some.units c.record_length-needed.result c.in-Some.ensures.value c.record_length-needed.ensures c.name_offset-offset.result c.name_offset-offset.ensures c.part.result.now c.part.ensures c.if-buffer-needed.false c.read_header.result c.read_header.ensures.value in
    record {
      value = value;
      law = meant header_of off al bytes w _ typed value;
      back =
          again header_of off al bytes w _ name c.in-Some.units c.record_length-needed.result c.in-Some.ensures.value c.record_length-needed.ensures c.name_offset-offset.result c.name_offset-offset.ensures c.part.result.now c.part.ensures c.if-buffer-needed.false
          c.read_header.result g.T.InfoInternal.header_bytes g.T.InfoInternal.clean typed c.read_header.ensures.back;
      one_unit_name = one_unit header_of off al bytes w _ value;
    }
