use Rattle.std.proofs.Common.{◌≡◌, drop}
use Rattle.im_contents.specs.Walk.{are_reached}

abbrev pub invariant-loop-node : Rattle.im_contents.proofs.walk.are_reached.Given.invariant-loop-node
invariant-loop-node l = are_reached l.marks l.nodes ≡ are_reached (drop l.node l.marks) (drop l.node l.nodes)
