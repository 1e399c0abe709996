use Rattle.std.proofs.Common.{◌≡◌, ◌+◌, true, [], ◌++◌, length, take}
use Rattle.std.specs.{Char.is_ascii, List.list_all, Option.option_map_or}
use Rattle.im_script.specs.Grammar.{texts, words_of}
use Rattle.im_script.proofs.grammar.put_first_words.Given as goal

-- what is left of the line, with what was cut off, has the line's words and its bytes
abbrev pub invariant-loop-rest : goal.invariant-loop-rest
invariant-loop-rest l = record {
  plain : option_map_or (λ rest. list_all is_ascii rest.now) l.rest true ≡ list_all is_ascii l.line;
  words : take 5 (texts l.words.items ++ option_map_or (λ rest. words_of rest.now) l.rest [])
      ≡ take 5 (words_of l.line);
}

abbrev pub decreases-loop-rest : goal.decreases-loop-rest
decreases-loop-rest l = option_map_or (λ rest. length rest.now + 1) l.rest 0
