-- What a RAM volume tells of a node: the meaning's record, with times of zero.
use Rattle.std.specs.Prelude.{◌≡◌, ℕ, ◌*◌, ◌≤◌, List, take, replicate, None, Ok, Err, Result}
use Rattle.uefi_time.specs.Times.{time_bytes}
use Rattle.uefi_time.specs.declared.time.Time.{Time}
use Rattle.uefi_info.specs.Infos.{file_info_bytes}
use Rattle.uefi_info.specs.declared.info.FileInfoCreationError.{FileInfoCreationError}
use Rattle.uefi_info.specs.declared.info.FileInfoCreationError.TheVariants.{BadUnit, ShortBuffer}
use Rattle.uefi_result.specs.StatusCodes.{buffer_too_small, device_error}
use Rattle.volume.specs.Calls.{Answer, accepted, refused, Delivers}
use Rattle.volume.specs.Records.{size_of, attribute_of, Next}
use Rattle.volume.specs.Tree.{Name, Content, Nodes}
use Rattle.block_store.specs.Files.{blocks_for}
use Rattle.ram_volume.specs.declared.about.About.{About}

-- what is told of a node is of its content, and the name by which it goes
pub record Describes (about : About) (c : Content) (called : Name) : Type 0 where
  pub size : about.size ≡ size_of None c
  pub attribute : about.attribute.0 ≡ attribute_of c
  pub name : about.name.now ≡ called

-- what stands next in the directory d from a position on, by its place
pub record Listing (t : Nodes) (d position place : ℕ) (about : About) : Type 0 where
  pub name : Name
  pub content : Content
  pub next : Next t d position place name content
  pub describes : Describes about content name
  pub near : place ≤ 65

-- the record of a size, an attribute and a name is delivered into a buffer, or its length told
pub record Told (size attribute : ℕ) (name : List ℕ) (space : ℕ) (a : Answer) : Type 0 where
  pub zero : Time
  pub zeroed : time_bytes zero ≡ replicate 16 0
  pub bytes : List ℕ
  pub is : bytes ≡ file_info_bytes size (512 * blocks_for size) zero zero zero attribute name
  pub delivers : Delivers space bytes a

-- a record that was not built, as a volume's answer; names of nodes have no bad units
abbrev pub unbuilt : FileInfoCreationError → Answer
unbuilt (ShortBuffer n) = refused buffer_too_small n
unbuilt (BadUnit place) = refused device_error 0

-- what building a record in front of a buffer comes to, as a volume's answer
abbrev pub answer_for : Result ℕ FileInfoCreationError → List ℕ → Answer
answer_for (Ok n) bytes = accepted n (take n bytes)
answer_for (Err e) bytes = unbuilt e
