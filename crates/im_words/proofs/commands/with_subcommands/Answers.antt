use Rattle.std.proofs.Common.{sym, ◌∙◌, arith}
use Rattle.im_words.{proofs.RowLemmas.row_added, proofs.RowLemmas.rows_end, specs.Words.subcommand_row}
use Rattle.im_words.proofs.commands.with_subcommands.Goals as goal

pub loop-row-preserved : goal.loop-row-preserved
loop-row-preserved c =
    row_added subcommand_row c.args.rows.now c.loop-row.row-index _ _ _ _ _ (omega (arith, c.loop-row-test.true))
    c.in_ok-subcommand.ensures.app (c.in_ok-made.ensures.shape c.in_ok-subcommand.ensures.local) c.loop-row.invariant

pub returns : goal.returns
returns c = record {
  app = sym (rows_end subcommand_row c.args.rows.now c.loop-row.row-index _ (omega (arith, c.loop-row-test.false)))
      ∙ c.loop-row.invariant;
}
