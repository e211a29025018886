-- A new RAM volume.
use Rattle.std.specs.Prelude.{◌≡◌, ℕ, ◌/◌, false, None, ◌≢◌}
use Rattle.volume.specs.Tree.{directory, root, Holds}
use Rattle.block_store.specs.Files.{Files, no_files}
use Rattle.ram_volume.specs.declared.types.RamVolume.{RamVolume}
use Rattle.ram_volume.specs.Meaning.{ram_held}

-- it has its root alone, no handle is open, no call ever misused one, no file was reported, and every block of a memory of so many bytes is free
pub record Fresh {S : Type 0} (files : S → Files) (free : S → ℕ) (bytes : ℕ) (v : RamVolume S) : Type 0 where
  pub rooted : Holds (ram_held files v.held).nodes root directory
  pub alone : (n : ℕ) → (n ≢ root) → (ram_held files v.held).nodes n ≡ None
  pub closed : (k : ℕ) → (ram_held files v.held).handles k ≡ None
  pub unmisused : (ram_held files v.held).misused ≡ false
  pub unreported : v.reported ≡ None
  pub empty : files v.held.store ≡ no_files
  pub spare : free v.held.store ≡ bytes / 512
