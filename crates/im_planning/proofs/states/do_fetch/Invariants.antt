use Rattle.std.proofs.Common.{◌≡◌}
use Rattle.im_types.specs.Types.{waiters_at}
use Rattle.im_planning.specs.Progress.{all_fetch}

abbrev pub invariant-loop-waiter : Rattle.im_planning.proofs.states.do_fetch.Given.invariant-loop-waiter
invariant-loop-waiter l =
    all_fetch l.plan l.a l.waiter-iterator ≡ all_fetch l.plan l.a (waiters_at l.memory.contents.cells l.a)
