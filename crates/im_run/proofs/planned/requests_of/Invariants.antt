use Rattle.std.proofs.Common.{◌≡◌, ◌++◌, map, drop}
use Rattle.im_run.specs.{Orders.ask_of, Planned.plan_of}

abbrev pub invariant-loop-order : Rattle.im_run.proofs.planned.requests_of.Given.invariant-loop-order
invariant-loop-order l = l.requests.items ++ plan_of (map ask_of (drop l.order-index l.orders))
    ≡ plan_of (map ask_of l.orders)
