use Rattle.std.proofs.Common.{◌≡◌, false, take, drop, ◌==◌, All}
use Rattle.std.specs.{Char.is_ascii, List.list_all}

-- no word ends before this byte, and all bytes before it are ASCII
abbrev pub invariant-loop-at : Rattle.im_script.proofs.grammar.cut_word.Given.invariant-loop-at
invariant-loop-at l = record {
  none : All (λ byte. (byte == 32) ≡ false) (take l.at l.line);
  plain : list_all is_ascii (drop l.at l.line) ≡ list_all is_ascii l.line;
}
