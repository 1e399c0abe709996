use Rattle.std.proofs.Common.{sym, ◌∙◌, arith}
use Rattle.im_words.{proofs.RowLemmas.word_added, proofs.RowLemmas.words_end, specs.Words.word_row}
use Rattle.im_words.proofs.commands.with_words.Goals as goal

pub loop-word-preserved : goal.loop-word-preserved
loop-word-preserved c =
    let at = c.loop-word.word-index in
    let added = c.in_ok-made.ensures in record {
      app = word_added word_row c.args.is_path c.args.words.now at _ _ _ _ _ (omega (arith, c.loop-word-test.true))
          c.argument.ensures.rule (added.shape c.argument.ensures.local) c.loop-word.invariant.app;
      local = added.globals ∙ grind (arith, c.loop-word.invariant.local, c.argument.ensures.local);
    }

pub returns-clause-app : goal.returns-clause-app
returns-clause-app c =
    sym (words_end word_row c.args.is_path c.args.words.now c.loop-word.word-index _
    (omega (arith, c.loop-word-test.false))) ∙ c.loop-word.invariant.app
