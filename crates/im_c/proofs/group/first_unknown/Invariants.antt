use Rattle.std.proofs.Common.{◌≡◌, ◌+◌, ◌≤◌, length}
use Rattle.im_c.specs.Group.{first_unknown}
use Rattle.im_c.proofs.group.first_unknown.Given as goal

abbrev pub invariant-loop-command : goal.invariant-loop-command
invariant-loop-command l = (l.place + first_unknown l.rest ≡ first_unknown l.commands)
    × (l.place + length l.rest ≤ length l.commands)

abbrev pub decreases-loop-command : goal.decreases-loop-command
decreases-loop-command l = length l.rest
