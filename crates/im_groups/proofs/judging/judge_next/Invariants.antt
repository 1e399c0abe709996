use Rattle.std.proofs.Common.{◌≡◌, ◌≤◌, ◌++◌, length, take}
use Rattle.im_types.specs.Types.{after}
use Rattle.im_groups.specs.{Commands.commands_at, Commands.left_after, Commands.takes_at, Marks.HaveMarks}

abbrev pub invariant-loop-i : Rattle.im_groups.proofs.judging.judge_next.Given.invariant-loop-i
invariant-loop-i l = record {
  few : length l.commands.items ≤ l.i;
  size : length l.taken.items ≡ l.i;
  commands : l.commands.items
      ≡ commands_at (after l.memory.contents l.group) (length l.members) (take l.i l.members);
  taken : l.taken.items ≡ takes_at (after l.memory.contents l.group) (length l.members) (take l.i l.members);
  left : l.left ≡ left_after (after l.memory.contents l.group) (length l.members) (take l.i l.members);
  marked : HaveMarks l.marks (l.group ++ l.commands.items);
}
