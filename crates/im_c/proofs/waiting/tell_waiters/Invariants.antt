use Rattle.std.proofs.Common.{◌≡◌, ◌≤◌, ◌++◌, map, length, take, drop}
use Rattle.im_types.specs.Types.{waiters_at}
use Rattle.im_c.specs.Waiting.{waiter_told}

abbrev pub invariant-loop-who : Rattle.im_c.proofs.waiting.tell_waiters.Given.invariant-loop-who
invariant-loop-who l = (take l.count l.places ++ map waiter_told l.who-iterator
    ≡ map waiter_told (waiters_at l.image.engine.memory.cells l.address))
    × (drop l.count l.places ≡ drop l.count l.fn.places) × (l.count ≤ length l.places)
