-- A command on a memory, for C.
use Rattle.std.specs.Prelude.{◌≡◌, Some, None}
use Rattle.{im_types.specs.Types.Command, im_types.specs.Types.step, im_memory.specs.State.MemoryState}
use Rattle.im_c.specs.declared.plain.{LtCommand.LtCommand, LtOutcome.LtOutcome}
use Rattle.im_c.specs.Plain.{meant, no_call, outcome_of}

-- the outcome of a command, and what the memory becomes
pub record Steps (old : MemoryState) (c : LtCommand) (out : LtOutcome) (new : MemoryState) : Type 0 where
  -- something that is no command changes nothing
  pub unknown : meant c ≡ None → (out ≡ no_call) × (new ≡ old)
  -- a command is answered, and acts, as the definition says
  pub known : (command : Command) → meant c ≡ Some command
      → (out ≡ outcome_of (step old.contents command).answer) × (new.contents ≡ (step old.contents command).contents)
