use Rattle.std.proofs.Common.{◌≡◌, length}
use Rattle.im_planning.specs.Fitting.{all_fit}
use Rattle.im_planning.proofs.fitting.do_fit.Given as goal

abbrev pub invariant-loop-first : goal.invariant-loop-first
invariant-loop-first l = all_fit l.memory.contents l.rest ≡ all_fit l.memory.contents l.initial.rest

abbrev pub decreases-loop-first : goal.decreases-loop-first
decreases-loop-first l = length l.rest
