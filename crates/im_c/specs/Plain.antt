-- Commands and outcomes in C's form.
use Rattle.std.specs.Prelude.{ℕ, Ok, Err, Option, Result}
use Rattle.im_types.specs.Types.{Entry, Command, Outcome, Tells, Confirmed, Refusal, number_of, entry_code}
use Rattle.im_types.specs.Types.{entry_number, op_of, command_of}
use Rattle.im_c.specs.declared.plain.{LtCommand.LtCommand, LtOutcome.LtOutcome}

-- the command that is meant, with the codes of the journal
abbrev pub meant : LtCommand → Option Command
meant c = command_of c.tag c.element c.number (op_of c.tag c.address c.value)

-- the outcome of the refusal with this number
abbrev pub refused : ℕ → LtOutcome
refused number = record { refusal = number; tag = 0; value = 0 }

-- the outcome of a call that is none
abbrev pub no_call : LtOutcome
no_call = refused 255

-- the outcome of an answer, with the image's code for an entry
abbrev pub outcome_of : Result Outcome Refusal → LtOutcome
outcome_of (Ok Confirmed) = record { refusal = 0; tag = 128; value = 0 }
outcome_of (Ok (Tells entry)) = record { refusal = 0; tag = entry_code entry; value = entry_number entry }
outcome_of (Err refusal) = refused (number_of refusal)

-- the outcome of an entry that is kept, or of the refusal
abbrev pub entry_outcome : Result Entry Refusal → LtOutcome
entry_outcome (Ok entry) = outcome_of (Ok (Tells entry))
entry_outcome (Err refusal) = outcome_of (Err refusal)
