use Rattle.std.proofs.Common.{◌≡◌, ◌++◌, string_bytes}
use Rattle.im_types.specs.Types.{waiters_at}
use Rattle.im_report.specs.Report.{waiters_text}

abbrev pub invariant-loop-waiter : Rattle.im_report.proofs.told.add_waiters.Given.invariant-loop-waiter
invariant-loop-waiter l =
    string_bytes l.out ++ waiters_text l.waiter-iterator ≡ string_bytes l.fn.out ++ waiters_text (waiters_at l.memory.contents.cells l.a)
