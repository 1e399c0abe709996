use Rattle.std.proofs.Common.{arith}
use Rattle.im_cell.proofs.Filled.{IsFilled-more, IsFilled-none, IsFilled-upto}
use Rattle.im_cell.specs.declared.state.TheConstants.{NOWHERE}
use Rattle.im_cell.proofs.cells.fill_extents.Goals as goal

pub loop-k-init : goal.loop-k-init
loop-k-init c = record {
  within = λ less. absurd (omega arith);
  filled = IsFilled-none NOWHERE c.args.extents.now c.args.from c.args.extent;
}

pub loop-k-preserved : goal.loop-k-preserved
loop-k-preserved c = record {
  within = λ less. omega arith;
  filled = IsFilled-more NOWHERE c.args.extents.now c.loop-k.extents c.args.from c.loop-k.k c.args.extent (omega arith) (omega arith)
      c.loop-k.invariant.filled;
}

pub returns : goal.returns
returns c = IsFilled-upto NOWHERE c.args.extents.now c.loop-k.extents c.args.from c.loop-k.k c.args.to c.args.extent (omega arith)
    c.loop-k.invariant.within c.loop-k.invariant.filled
