use Rattle.std.proofs.Common.{◌≡◌, ◌++◌, drop}
use Rattle.im_front.specs.Lists.{answers_told, asks_told}

abbrev pub invariant-loop-i : Rattle.im_front.proofs.asks.Asks.tell.Given.invariant-loop-i
invariant-loop-i l = (asks_told l.told.items ++ drop l.i l.self-inside.queue.items ≡ l.fn.self)
    × (answers_told l.told.items ++ drop l.i l.served ≡ l.served)
