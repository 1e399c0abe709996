use Rattle.std.proofs.Common.{◌≡◌, ◌+◌, ◌≤◌, ◌++◌, length}
use Rattle.im_c.specs.Group.{all_meant}
use Rattle.im_c.proofs.group.gather.Given as goal

abbrev pub invariant-loop-command : goal.invariant-loop-command
invariant-loop-command l = (l.members.items ++ all_meant l.rest ≡ all_meant l.commands)
    × (length l.members.items + length l.rest ≤ length l.commands)

abbrev pub decreases-loop-command : goal.decreases-loop-command
decreases-loop-command l = length l.rest
