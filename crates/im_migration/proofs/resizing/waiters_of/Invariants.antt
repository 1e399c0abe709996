use Rattle.std.proofs.Common.{◌≡◌, ◌++◌}
use Rattle.im_types.specs.Types.{waiters_at}

abbrev pub invariant-loop-waiter : Rattle.im_migration.proofs.resizing.waiters_of.Given.invariant-loop-waiter
invariant-loop-waiter l = l.waiters.items ++ l.waiter-iterator ≡ waiters_at l.memory.contents.cells l.a
