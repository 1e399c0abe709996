use Rattle.std.proofs.Common.{sym, arith}
use Rattle.im_script.proofs.WordLemmas.{word_same}

pub returns : Rattle.im_script.proofs.grammar.is_word.Goals.returns
returns c = sym (word_same _ _ c.loop-at.at c.loop-at-test.false (omega arith) c.loop-at.invariant)
