use Rattle.std.proofs.Common.{◌≡◌, ◌++◌, drop, replicate}

abbrev pub invariant-loop-at : Rattle.im_pages.proofs.words.fill_words.Given.invariant-loop-at
invariant-loop-at l = l.words ≡ replicate l.at l.word ++ drop l.at l.initial.words
