-- How a RAM volume changes, in the words of the meaning.
use Rattle.std.specs.Prelude.{◌≡◌, ℕ, ◌+◌, ◌-◌, ◌<◌, ◌≤◌, min, Bool, true, false, ◌⊎◌, List, [], length, Some, None, Ok, Err, Result, ◌≢◌}
use Rattle.uefi_result.specs.StatusCodes.{invalid_parameter, volume_full, not_found}
use Rattle.uefi_result.specs.declared.error.Error.{Error}
use Rattle.volume.specs.Answers.{refusing}
use Rattle.volume.specs.Calls.{Answer, Opened, on, Made, nameable}
use Rattle.volume.specs.State.{Held, created, removed, moved, changed, overwritten}
use Rattle.volume.specs.Tree.{Name, Node, directory, file, root, Holds, Entry}
use Rattle.volume.specs.declared.handle.Handle.{Handle}
use Rattle.block_store.specs.Files.{Files, blocks_for}
use Rattle.ram_tables.specs.declared.rows.EnterError.{EnterError}
use Rattle.ram_tables.specs.declared.rows.EnterError.TheVariants.{NotADirectory, BadName, Full}
use Rattle.ram_volume.specs.declared.types.RamVolume.{RamVolume}
use Rattle.ram_volume.specs.Meaning.{ram_held}

-- a node came in the directory d, and nothing else changed
pub record Came (v : Held) (d : ℕ) (c : Name) (attribute n : ℕ) (w : Held) : Type 0 where
  pub absent : (m : ℕ) → Entry v.nodes d c m → ⊥
  pub proper : nameable 64 c ≡ true
  pub space : v.node_count < 64
  pub node : Node
  pub made : Made v.nodes d c attribute n node
  pub held : w ≡ created n node v

-- the node of a name in the directory d is found or made
abbrev pub Creates : Held → ℕ → Name → ℕ → Result ℕ EnterError → Held → Type 0
Creates v d c attribute (Ok n) w = (Entry v.nodes d c n × (w ≡ v)) ⊎ Came v d c attribute n w
Creates v d c attribute (Err NotADirectory) w = (Holds v.nodes d directory → ⊥) × (w ≡ v)
Creates v d c attribute (Err BadName) w = ((m : ℕ) → Entry v.nodes d c m → ⊥) × (nameable 64 c ≡ false) × (w ≡ v)
Creates v d c attribute (Err Full) w = ((m : ℕ) → Entry v.nodes d c m → ⊥) × (nameable 64 c ≡ true) × (64 ≤ v.node_count) × (w ≡ v)

-- the status of a volume's refusal where a name was not entered
abbrev pub not_entered : EnterError → ℕ
not_entered NotADirectory = not_found
not_entered BadName = invalid_parameter
not_entered Full = volume_full

-- a node is found that is to be opened: every answer and state that a handle opened on it comes to is one that the meaning allows, and no handle changed; or none is found, and the refusal is what it allows
abbrev pub Reaches : (Answer → Held → Type 0) → Bool → Held → Result ℕ (Error ℕ) → Held → Type 0
Reaches allowed writable v (Ok n) u = (u.nodes n ≢ None) × (u.handles ≡ v.handles) × ((a : Answer) (w : Held) → Opened (on n writable) u a w → allowed a w)
Reaches allowed writable v (Err e) u = allowed (refusing e) u

-- a node goes that is not the root and has no entries; any other stays
abbrev pub Deletes : Held → ℕ → Bool → Held → Type 0
Deletes v n true w = (n ≢ root) × ((m : ℕ) (c : Name) → Entry v.nodes n c m → ⊥) × (w ≡ removed n v)
Deletes v n false w = ((n ≡ root) ⊎ ((m : ℕ) × (c : Name) × Entry v.nodes n c m)) × (w ≡ v)

-- so many bytes went into the file that the handle k is on, and the handle moved along
pub record Wrote (v : Held) (capacity : ℕ → ℕ) (k : ℕ) (bytes : List ℕ) (h : Handle) (count : ℕ) (w : Held) : Type 0 where
  pub node : Node
  pub old : List ℕ
  pub there : v.nodes h.node ≡ Some node
  pub content : node.content ≡ file old
  pub counted : count ≡ min (length bytes) (capacity h.node - h.position)
  pub held : w ≡ moved k h (h.position + count) (changed h.node (record node { content = file (overwritten old h.position count bytes) }) v)

-- the file of the node n is empty, and its blocks are free again
pub record Freed (files : Files) (free n : ℕ) (after : Files) (spare : ℕ) : Type 0 where
  pub emptied : after n ≡ []
  pub freed : spare ≡ free + blocks_for (length (files n))

-- so is that of the node which the handle k was on
abbrev pub Frees : {S : Type 0} → (S → Files) → (S → ℕ) → ℕ → RamVolume S → RamVolume S → Type 0
Frees files free k v w = (h : Handle) → (ram_held files v.held).handles k ≡ Some h → Freed (files v.held.store) (free v.held.store) h.node (files w.held.store) (free w.held.store)
