use Rattle.im_holes.specs.Tree.{IsUpTo}
use Rattle.im_holes.proofs.tree.renew_path.Given as goal

abbrev pub invariant-loop-k : goal.invariant-loop-k
invariant-loop-k l = IsUpTo l.initial.nodes l.nodes l.k

abbrev pub decreases-loop-k : goal.decreases-loop-k
decreases-loop-k l = l.k
