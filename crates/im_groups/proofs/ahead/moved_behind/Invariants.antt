use Rattle.std.proofs.Common.{◌≡◌, ◌+◌, ◌≤◌, drop}
use Rattle.im_groups.specs.Ahead.{bounds_behind_all}

abbrev pub invariant-loop-command : Rattle.im_groups.proofs.ahead.moved_behind.Given.invariant-loop-command
invariant-loop-command l = record {
  moved : bounds_behind_all l.element (drop l.command-index l.commands) l.moved
      ≡ bounds_behind_all l.element l.commands l.fn.bounds;
  low : l.moved.1 ≤ l.fn.bounds.1 + l.command-index;
}
