use Rattle.std.proofs.Common.{sym, arith}
use Rattle.im_holes.proofs.Kept.{place-hole, place-no_hole, root-inside}
use Rattle.im_holes.proofs.holes.find.Goals as goal

pub node-requires : goal.node-requires
node-requires c = root-inside c.args.begins.now c.args.tags.now c.args.nodes.now c.requires.holes

pub returns-then-node-n-clause-place : goal.returns-then-node-n-clause-place
returns-then-node-n-clause-place c = sym (place-no_hole c.args.begins.now c.args.tags.now c.args.nodes.now c.args.n
    c.requires.holes
    c.requires.some (omega (arith, c.node.ensures)))

pub returns-clause-place : goal.returns-clause-place
returns-clause-place c = sym (place-hole c.args.begins.now c.args.tags.now c.args.nodes.now c.args.n _ _
    c.requires.holes
    c.requires.some c.first_from.ensures c.first_in.ensures)
