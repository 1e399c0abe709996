use Rattle.std.proofs.Common.{arith}
use Rattle.im_cell.proofs.Filled.{IsFilled-more, IsFilled-none, IsFilled-upto}
use Rattle.im_cell.specs.declared.state.State.TheVariants.{Free}
use Rattle.im_cell.proofs.cells.fill_states.Goals as goal

pub loop-k-init : goal.loop-k-init
loop-k-init c = record {
  within = λ less. absurd (omega arith);
  filled = IsFilled-none Free c.args.states.now c.args.from c.args.state;
}

pub loop-k-preserved : goal.loop-k-preserved
loop-k-preserved c = record {
  within = λ less. omega arith;
  filled = IsFilled-more Free c.args.states.now c.loop-k.states c.args.from c.loop-k.k c.args.state (omega arith) (omega arith)
      c.loop-k.invariant.filled;
}

pub returns : goal.returns
returns c = IsFilled-upto Free c.args.states.now c.loop-k.states c.args.from c.loop-k.k c.args.to c.args.state (omega arith)
    c.loop-k.invariant.within c.loop-k.invariant.filled
