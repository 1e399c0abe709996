use Rattle.std.proofs.Common.{◌≡◌, false, map, drop}
use Rattle.clap.specs.{declared.builder.command.Command.TheViews.out-Command, Words.app_of}
use Rattle.im_words.specs.Words.{with_words, word_row}

abbrev pub invariant-loop-word : Rattle.im_words.proofs.commands.with_words.Given.invariant-loop-word
invariant-loop-word l = record {
  app : with_words l.is_path (app_of l.made) (map word_row (drop l.word-index l.words))
      ≡ with_words l.is_path (app_of l.fn.command) (map word_row l.words);
  local : (out-Command l.made).has_globals ≡ false;
}
