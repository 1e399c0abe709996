use Rattle.std.proofs.Common.{take}
use Rattle.im_groups.specs.Marks.{HaveMarks}

-- all so far have marks
abbrev pub invariant-loop-command : Rattle.im_groups.proofs.marks.mark_all.Given.invariant-loop-command
invariant-loop-command l = HaveMarks l.marks (take l.command-index l.commands)
