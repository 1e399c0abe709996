use Rattle.std.proofs.Common.{◌≡◌, take}

-- the bytes before this one are the same
abbrev pub invariant-loop-at : Rattle.im_script.proofs.grammar.is_word.Given.invariant-loop-at
invariant-loop-at l = take l.at l.word ≡ take l.at l.this
