use Rattle.std.proofs.Common.{drop}
use Rattle.im_run.specs.Planned.{AreServed}

-- those that were passed were served
abbrev pub invariant-loop-order : Rattle.im_run.proofs.unserved.find_unserved.Given.invariant-loop-order
invariant-loop-order l = AreServed l.memory.contents.windows (drop l.order-index l.orders)
    → AreServed l.memory.contents.windows l.orders
