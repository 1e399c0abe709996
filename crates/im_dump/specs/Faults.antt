-- The refusal of a text that isn't loaded. (Own.)
use Rattle.im_types.specs.Types.{Refusal}
use Rattle.im_dump.specs.declared.faults.DumpFault.{DumpFault, TheVariants.BadLine, TheVariants.NoMemory}
use Rattle.im_types.specs.declared.refusals.Refusal.TheVariants as refusal

-- the refusal of a fault
abbrev pub fault_refusal : DumpFault → Refusal
fault_refusal NoMemory = refusal.NoMemory
fault_refusal (BadLine line fault) = refusal.BadScript
