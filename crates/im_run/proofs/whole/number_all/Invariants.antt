use Rattle.std.proofs.Common.{◌≡◌, ◌++◌, map, length}
use Rattle.im_run.specs.Orders.{ask_of, asks_among, first_behind}

abbrev pub invariant-loop-order : Rattle.im_run.proofs.whole.number_all.Given.invariant-loop-order
invariant-loop-order l = map ask_of l.numbered.items
    ++ asks_among (first_behind (length l.bases)) l.order-iterator.rest.items
    ≡ asks_among (first_behind (length l.bases)) l.fn.orders.items
