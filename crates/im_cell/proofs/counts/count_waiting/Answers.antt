use Rattle.std.proofs.Common.{length, arith}
use Rattle.im_cell.proofs.Begun.{counts-all, counts-begun, held-begun}
use Rattle.im_cell.proofs.counts.count_waiting.Goals as goal

pub loop-a-init : goal.loop-a-init
loop-a-init c = record {
  held = held-begun c.args.holes.now (length c.args.cells.now) c.requires.none;
  waits = counts-begun c.args.cells.now c.args.holes.now c.requires.blocks c.requires.none;
}

pub returns-clause-waits : goal.returns-clause-waits
returns-clause-waits c = counts-all c.args.cells.now c.loop-a.holes c.loop-a.a (omega arith) c.loop-a.invariant.waits
