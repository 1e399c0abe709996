use Rattle.std.proofs.Common.{arith}
use Rattle.im_holes.proofs.Nodes.{Reaches-leaf, Reaches-left, Reaches-right, Reaches-start}
use Rattle.im_holes.proofs.tree.first_from.Goals as goal

pub loop-k-init : goal.loop-k-init
loop-k-init c = Reaches-start c.args.nodes.now c.args.n c.start_for-k.result c.start_for-k.ensures

pub loop-k-preserved-then-node-n : goal.loop-k-preserved-then-node-n
loop-k-preserved-then-node-n c = Reaches-left c.args.nodes.now c.requires.tree.inner c.args.n c.loop-k.k
    c.loop-k-test.true
    c.loop-k.invariant (omega (arith, c.node.ensures))

pub loop-k-preserved : goal.loop-k-preserved
loop-k-preserved c = Reaches-right c.args.nodes.now c.requires.tree.inner c.args.n c.loop-k.k c.loop-k-test.true
    c.loop-k.invariant (omega (arith, c.node.ensures))

pub returns : goal.returns
returns c = Reaches-leaf c.args.nodes.now c.args.n c.loop-k.k c.loop-k.invariant (omega arith)
