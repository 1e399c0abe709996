use Rattle.std.proofs.Common.{◌≡◌, length}
use Rattle.im_planning.specs.Progress.{all_go_on}
use Rattle.im_planning.proofs.progress.do_go_on.Given as goal

abbrev pub invariant-loop-first : goal.invariant-loop-first
invariant-loop-first l = all_go_on l.memory.contents l.plan l.rest ≡ all_go_on l.memory.contents l.plan l.initial.rest

abbrev pub decreases-loop-first : goal.decreases-loop-first
decreases-loop-first l = length l.rest
