use Rattle.std.proofs.Common.{◌≡◌, map, drop}
use Rattle.clap.specs.Words.{app_of}
use Rattle.im_words.specs.Words.{subcommand_row, with_subcommands}

abbrev pub invariant-loop-row : Rattle.im_words.proofs.commands.with_subcommands.Given.invariant-loop-row
invariant-loop-row l = with_subcommands (app_of l.made) (map subcommand_row (drop l.row-index l.rows))
    ≡ with_subcommands (app_of l.fn.command) (map subcommand_row l.rows)
