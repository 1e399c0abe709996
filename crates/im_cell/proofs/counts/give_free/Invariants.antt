use Rattle.std.proofs.Common.{◌-◌, length}
use Rattle.im_cell.proofs.Begun.{IsGivenTo}
use Rattle.im_cell.proofs.counts.give_free.Given as goal

abbrev pub invariant-loop-at : goal.invariant-loop-at
invariant-loop-at l = IsGivenTo l.cells l.holes l.at

abbrev pub decreases-loop-at : goal.decreases-loop-at
decreases-loop-at l = length l.cells - l.at
