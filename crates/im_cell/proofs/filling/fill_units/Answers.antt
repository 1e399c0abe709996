use Rattle.std.proofs.Common.{arith}
use Rattle.im_cell.proofs.Filled.{IsFilled-more, IsFilled-none, IsFilled-upto}
use Rattle.im_cell.specs.declared.unit.Unit.TheVariants.{Each}
use Rattle.im_cell.proofs.filling.fill_units.Goals as goal

pub loop-k-init : goal.loop-k-init
loop-k-init c = record {
  within = λ less. absurd (omega arith);
  filled = IsFilled-none Each c.args.units.now c.args.from c.args.unit;
}

pub loop-k-preserved : goal.loop-k-preserved
loop-k-preserved c = record {
  within = λ less. omega arith;
  filled = IsFilled-more Each c.args.units.now c.loop-k.units c.args.from c.loop-k.k c.args.unit (omega arith) (omega arith)
      c.loop-k.invariant.filled;
}

pub returns : goal.returns
returns c = IsFilled-upto Each c.args.units.now c.loop-k.units c.args.from c.loop-k.k c.args.to c.args.unit (omega arith)
    c.loop-k.invariant.within c.loop-k.invariant.filled
