use Rattle.std.proofs.Common.{◌≡◌, take}
use Rattle.im_arena.specs.Lists.{with_list}

abbrev pub invariant-loop-waiter : Rattle.im_memory.proofs.restore.push_each.Given.invariant-loop-waiter
invariant-loop-waiter l = l.arena.held ≡ with_list l.initial.arena.held l.list (take l.waiter-index l.waiters)
