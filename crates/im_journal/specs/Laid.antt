-- The commands behind a snapshot.
use Rattle.std.specs.Prelude.{List, []}
use Rattle.im_types.specs.Types.{Command}
use Rattle.im_journal.specs.declared.laid.LaidCommands.{LaidCommands, TheVariants.Nothing, TheVariants.These}

-- the commands whose bodies are on the disk
abbrev pub laid_commands : LaidCommands → List Command
laid_commands Nothing = []
laid_commands (These commands) = commands.value.items
