use Rattle.std.proofs.Common.{◌≡◌, ◌++◌, string_bytes, codes}
use Rattle.im_types.specs.Types.{waiters_at}
use Rattle.im_report.specs.Report.{mark_of, waiter_objects}

abbrev pub invariant-loop-waiter : Rattle.im_report.proofs.told.add_waiter_objects.Given.invariant-loop-waiter
invariant-loop-waiter l = string_bytes l.out ++ waiter_objects (mark_of l.is_first) l.waiter-iterator
    ≡ string_bytes l.fn.out ++ waiter_objects (codes "[") (waiters_at l.memory.contents.cells l.a)
