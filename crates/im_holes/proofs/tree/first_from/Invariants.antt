use Rattle.std.proofs.Common.{◌-◌}
use Rattle.im_holes.proofs.Nodes.{Reaches}
use Rattle.im_holes.proofs.tree.first_from.Given as goal

abbrev pub invariant-loop-k : goal.invariant-loop-k
invariant-loop-k l = Reaches l.nodes l.n l.k

abbrev pub decreases-loop-k : goal.decreases-loop-k
decreases-loop-k l = l.leaves - l.k
