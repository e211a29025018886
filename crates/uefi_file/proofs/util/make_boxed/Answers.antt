use Rattle.std.proofs.Common.{ℕ, sym, ap, ◌∙◌}
use Rattle.std.proofs.lemmas.List.{length-take-le}
use Rattle.uefi_result.specs.Errors.{told_err}
use Rattle.uefi_file.proofs.Fetching.{no_size, no_room, boxed_in}
use Rattle.uefi_file.proofs.Telling.{left_with, had_some, had_none, unwrapped, status_told}
use Rattle.uefi_file.proofs.util.make_boxed.Goals as goal

pub returns-in_err-size : goal.returns-in_err-size
returns-in_err-size g c =
    rw (left_with c.from_residual.result c.in_err-size.field-0.0 c.from_residual.ensures.1)
    (no_size (g.F.FetchData.fetching c.args.fetch.now) c.args.buffer.now _ _ (told_err c.fetch.result, c.fetch.new.buffer) c.fetch.ensures _ c.in_err-size.ensures)

pub returns-in_err-len : goal.returns-in_err-len
returns-in_err-len g c =
    let e = c.in_err-len in
    let h = had_none c.unwrap.result c.padded.result e.field-0.0 e.ensures.value in
    rw (left_with c.from_residual-in_err-len.result e.field-0.0 c.from_residual-in_err-len.ensures.1, h.1, ap (λ (x : ℕ × Unit {0}). x.0) (unwrapped c.new.result c.unwrap.result _ c.unwrap.ensures c.new.ensures))
    (no_room (g.F.FetchData.fetching c.args.fetch.now) c.args.buffer.now _ _ (told_err c.fetch.result, c.fetch.new.buffer) c.fetch.ensures c.in_ok-size.size c.in_ok-size.ensures (sym c.padded.ensures.value ∙ h.0))

pub returns : goal.returns
returns g c =
    let e = had_some c.unwrap.result c.padded.result c.in_ok-len.len c.in_ok-len.ensures.value in
    let w = c.padded.ensures.within in
    boxed_in (g.F.FetchData.fetching c.args.fetch.now) c.args.buffer.now _ _ (told_err c.fetch.result, c.fetch.new.buffer) c.fetch.ensures c.in_ok-size.size c.in_ok-len.len (told_err c.fetch-2.result, c.fetch-2.new.buffer) _ _ c.in_ok-size.ensures (sym c.padded.ensures.value ∙ e) c.fetch-2.ensures (c.fetch-2.auto.buffer ∙ length-take-le _ _ (rw e at w)) (status_told c.fetch-2.result ∙ c.without_payload.ensures)
