use Rattle.std.proofs.Common.{◌≡◌, ◌+◌, length}
use Rattle.im_types.specs.Types.{waiters_at}

abbrev pub invariant-loop-waiter : Rattle.im_report.proofs.counting.queue_at.Given.invariant-loop-waiter
invariant-loop-waiter l = l.count + length l._waiter-iterator ≡ length (waiters_at l.memory.contents.cells l.a)
