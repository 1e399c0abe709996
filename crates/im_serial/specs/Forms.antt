-- The entry of a note, which is kept as its form and a number. (Own.)
use Rattle.std.specs.Prelude.{ℕ, ◌%◌, ◌^◌}
use Rattle.im_types.specs.Types.{Entry}
use Rattle.im_serial.specs.declared.notes.EntryForm.{EntryForm}
use Rattle.im_serial.specs.declared.notes.EntryForm.TheVariants.{BadLength, Base, Clash, Cleared, NoBlock, NoCell}
use Rattle.im_serial.specs.declared.notes.EntryForm.TheVariants.{NoSpace, Released, StillWaiting, Stored, Value}
use Rattle.im_serial.specs.declared.notes.EntryForm.TheVariants.{Waiting, WrongKind}
use Rattle.im_types.specs.declared.operations.Entry.TheVariants as entry
use Rattle.im_types.specs.declared.operations.Reply.TheVariants as reply

-- the entry of this form that tells this number
abbrev pub entry_shown : EntryForm → ℕ → Entry
entry_shown Waiting told = entry.Waiting
entry_shown Base told = entry.Answered (reply.Base (told % 2 ^ 32))
entry_shown NoSpace told = entry.Answered reply.NoSpace
entry_shown BadLength told = entry.Answered reply.BadLength
entry_shown Value told = entry.Answered (reply.Value told)
entry_shown Stored told = entry.Answered reply.Stored
entry_shown Clash told = entry.Answered reply.Clash
entry_shown NoCell told = entry.Answered reply.NoCell
entry_shown WrongKind told = entry.Answered reply.WrongKind
entry_shown Released told = entry.Answered reply.Released
entry_shown NoBlock told = entry.Answered reply.NoBlock
entry_shown StillWaiting told = entry.Answered reply.StillWaiting
entry_shown Cleared told = entry.Answered reply.Cleared
