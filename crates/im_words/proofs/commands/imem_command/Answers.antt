use Rattle.std.proofs.Common.{ap, ◌∙◌}
use Rattle.clap.specs.Words.{App}
use Rattle.im_words.specs.Words.{imem_app, table_rows, with_subcommands}

pub returns : Rattle.im_words.proofs.commands.imem_command.Goals.returns
unfolding imem_app
returns c = record {
  app = c.in_ok-command.ensures.app ∙ ap (λ (a : App). with_subcommands a table_rows) c.top_command.ensures.app;
}
