use Rattle.std.proofs.Common.{ap, ◌∙◌, w16, SFits, to_z, rules}
use Rattle.std.proofs.lemmas.Int.{to_z-of_z}
use Rattle.uefi_time.specs.Times.{time_of}
use Rattle.uefi_time.proofs.time.Time.read.Goals as goal

pub returns : goal.returns
unfolding time_of
returns c =
    let fits : SFits w16 c.cast_signed.result = search rules in
    let zone = to_z-of_z w16 c.cast_signed.result fits ∙ c.cast_signed.ensures ∙ ap (to_z w16) c.read_field-9.ensures.value in
    λ i. record {
      year = c.read_field.ensures.value i;
      month = c.read_field-2.ensures.value i;
      day = c.read_field-3.ensures.value i;
      hour = c.read_field-4.ensures.value i;
      minute = c.read_field-5.ensures.value i;
      second = c.read_field-6.ensures.value i;
      pad1 = c.read_field-7.ensures.value i;
      nanosecond = c.read_field-8.ensures.value i;
      time_zone = zone i;
      daylight = c.read_field-10.ensures.value i;
      pad2 = c.read_field-11.ensures.value i;
    }
