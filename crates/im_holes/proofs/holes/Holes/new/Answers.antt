use Rattle.std.proofs.Common.{arith}
use Rattle.im_holes.proofs.Kept.{AreHoles-held, cells_of-held}
use Rattle.im_holes.proofs.holes.Holes.new.Goals as goal

pub invariant_of-result : goal.invariant_of-result
invariant_of-result c =
    rw (c.in_ok-begins.ensures, c.in_ok-tags.ensures)
    (AreHoles-held c.args.cells c.in_ok-nodes.nodes.items (omega arith) c.in_ok-nodes.ensures)

pub returns : goal.returns
returns c = rw (c.in_ok-begins.ensures, c.in_ok-tags.ensures) (cells_of-held c.args.cells)
