use Rattle.std.proofs.Common.{drop}
use Rattle.im_run.specs.Running.{AreThere}

-- those that were passed are there
abbrev pub invariant-loop-order : Rattle.im_run.proofs.beginning.missing_element.Given.invariant-loop-order
invariant-loop-order l = AreThere l.memory.contents (drop l.order-index l.orders) → AreThere l.memory.contents l.orders
