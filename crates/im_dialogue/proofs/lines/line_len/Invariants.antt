use Rattle.std.proofs.Common.{take}
use Rattle.im_dialogue.specs.Hearing.{IsLinePart}

-- no line feed stands before this byte
abbrev pub invariant-loop-at : Rattle.im_dialogue.proofs.lines.line_len.Given.invariant-loop-at
invariant-loop-at l = IsLinePart (take l.at l.text)
