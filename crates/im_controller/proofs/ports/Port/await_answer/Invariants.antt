use Rattle.std.proofs.Common.{◌≡◌}
use Rattle.im_controller.proofs.ports.Port.await_answer.Given as goal

abbrev pub invariant-loop : goal.invariant-loop
invariant-loop g l =
    (goal.iterator-loop g).can_next l.iterator' × (goal.iterator-loop g).is_finite l.iterator'
    × (l.self-inside.tally ≡ l.fn.self.told)
    × (l.self-inside.element ≡ l.fn.self.element)
    × (l.self-inside.seen ≡ l.fn.self.history)
