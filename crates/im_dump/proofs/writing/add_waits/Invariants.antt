use Rattle.std.{proofs.Common.◌≡◌, proofs.Common.◌++◌, proofs.Common.string_bytes, specs.List.AllByRecursion}
use Rattle.im_types.specs.Types.{waiters_at}
use Rattle.im_dump.specs.{Dump.waits_lines, Fitting.FitsWaiter}

abbrev pub invariant-loop-waiter : Rattle.im_dump.proofs.writing.add_waits.Given.invariant-loop-waiter
invariant-loop-waiter l = record {
  lines : string_bytes l.out ++ waits_lines l.a l.waiter-iterator
      ≡ string_bytes l.fn.out ++ waits_lines l.a (waiters_at l.memory.contents.cells l.a);
  fits : AllByRecursion FitsWaiter l.waiter-iterator → AllByRecursion FitsWaiter (waiters_at l.memory.contents.cells
      l.a);
}
