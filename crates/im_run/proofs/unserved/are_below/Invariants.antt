use Rattle.std.proofs.Common.{◌≡◌, length}
use Rattle.im_run.specs.Planned.{all_below}
use Rattle.im_run.proofs.unserved.are_below.Given as goal

abbrev pub invariant-loop-intent : goal.invariant-loop-intent
invariant-loop-intent l = all_below l.next l.number l.rest ≡ all_below l.next l.first l.initial.rest

abbrev pub decreases-loop-intent : goal.decreases-loop-intent
decreases-loop-intent l = length l.rest
