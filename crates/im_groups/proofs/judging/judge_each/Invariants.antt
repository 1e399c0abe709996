use Rattle.std.proofs.Common.{◌≡◌, ◌≤◌, length, take}
use Rattle.im_groups.specs.{Commands.commands_at, Commands.left_after, Commands.takes_at, Marks.HaveMarks}

abbrev pub invariant-loop-i : Rattle.im_groups.proofs.judging.judge_each.Given.invariant-loop-i
invariant-loop-i l = record {
  few : length l.commands.items ≤ l.i;
  size : length l.taken.items ≡ l.i;
  commands : l.commands.items ≡ commands_at l.memory.contents l.places (take l.i l.members);
  taken : l.taken.items ≡ takes_at l.memory.contents l.places (take l.i l.members);
  left : l.left ≡ left_after l.memory.contents l.places (take l.i l.members);
  marked : HaveMarks l.marks l.commands.items;
}
