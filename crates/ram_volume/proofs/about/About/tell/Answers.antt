use Rattle.std.proofs.Common.{◌≡◌, ℕ, ◌*◌, length, sym, ap, ◌∙◌}
use Rattle.uefi_info.specs.Infos.{file_info_bytes, file_info_length}
use Rattle.uefi_info.specs.Parsed.{written}
use Rattle.uefi_info.specs.Refusals.{refused}
use Rattle.block_store.specs.Files.{blocks_for}
use Rattle.ram_volume.proofs.Tellings.{answered, told_by, filled_by, within_by}
use Rattle.ram_volume.proofs.about.About.tell.Goals as goal

pub returns : goal.returns
returns c =
    let about = c.args.self.now in
    let size = about.size in
    let name = about.name.now in
    let attribute = about.attribute.0 in
    let old = c.args.buffer.now in
    let new = c.new.new.storage in
    let zero = c.invalid-zero.result in
    let p = c.physical_size-physical.ensures in
    let built = c.new.ensures in
    let after : new ≡ written (file_info_bytes size (512 * blocks_for size) zero zero zero attribute name) (refused c.new.result) old =
    built.after ∙ ap (λ (x : ℕ). written (file_info_bytes size x zero zero zero attribute name) (refused c.new.result) old) p in
    let long : length (file_info_bytes size (512 * blocks_for size) zero zero zero attribute name) ≡ file_info_length name =
    sym (ap (λ (x : ℕ). length (file_info_bytes size x zero zero zero attribute name)) p) ∙ built.length in
    let answer = answered c.new.result c.map_err.result new c.map_err.ensures.cases in
    let told = told_by size attribute name old new zero c.new.result c.map_err.result c.invalid-zero.ensures.value about.text built.value after long answer in
    record {
      told = told;
      fills = filled_by size attribute name old new zero c.new.result c.map_err.result c.invalid-zero.ensures.value about.text built.value after long answer;
      within = within_by c.map_err.result (length old) told.bytes new told.delivers;
    }
