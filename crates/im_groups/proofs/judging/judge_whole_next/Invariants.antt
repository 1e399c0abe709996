use Rattle.std.proofs.Common.{◌++◌, take}
use Rattle.im_types.specs.Types.{after}
use Rattle.im_groups.specs.{Ahead.AreAccepted, Marks.HaveMarks}

abbrev pub invariant-loop-i : Rattle.im_groups.proofs.judging.judge_whole_next.Given.invariant-loop-i
invariant-loop-i l = record {
  accepted : AreAccepted (after l.memory.contents l.group) (take l.i l.members);
  marked : HaveMarks l.marks (l.group ++ take l.i l.members);
}
