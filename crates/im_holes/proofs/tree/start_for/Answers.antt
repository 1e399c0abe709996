use Rattle.std.proofs.Common.{arith}
use Rattle.im_holes.proofs.Nodes.{IsStart-near, IsStart-root}
use Rattle.im_holes.proofs.tree.start_for.Goals as goal

pub returns-then-node-n : goal.returns-then-node-n
returns-then-node-n c = IsStart-near c.args.nodes.now c.args.n _ c.requires.power.0 c.requires.power.1 (omega arith)
    (omega arith) (omega (arith, c.node.ensures))

pub returns-else-node-n : goal.returns-else-node-n
returns-else-node-n c = IsStart-root c.args.nodes.now c.args.n c.requires.power.0 c.requires.power.1 c.requires.room

pub returns-else-near-gt0 : goal.returns-else-near-gt0
returns-else-near-gt0 c = IsStart-root c.args.nodes.now c.args.n c.requires.power.0 c.requires.power.1 c.requires.room
