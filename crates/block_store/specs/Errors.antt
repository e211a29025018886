-- The refusal that the code answers, as the rules number it.
use Rattle.uefi_types.specs.Refusal.{Refusal}
use Rattle.block_store.specs.Files.{bad_memory}
use Rattle.block_store.specs.declared.store.BadMemory.{BadMemory}

abbrev pub bad_memory_of : BadMemory → Refusal
bad_memory_of e = bad_memory
