use Rattle.std.proofs.Common.{◌≡◌, ◌++◌, map}
use Rattle.im_run.specs.Orders.{ask_of, asks_among, first_asked}

abbrev pub invariant-loop-order : Rattle.im_run.proofs.numbering.number_orders.Given.invariant-loop-order
invariant-loop-order l = map ask_of l.numbered.items
    ++ asks_among (first_asked l.once l.memory.contents) l.order-iterator.rest.items
    ≡ asks_among (first_asked l.once l.memory.contents) l.fn.orders.items
