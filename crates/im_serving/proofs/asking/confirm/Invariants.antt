use Rattle.std.proofs.Common.{◌≡◌}
use Rattle.im_types.specs.Types.{Confirm, Commands}
use Rattle.im_serving.specs.Calls.{MakesOnly}
use mathlib.Core.List.{IsPrefix}
use Rattle.im_serving.proofs.asking.confirm.Given as goal

abbrev pub invariant-loop : goal.invariant-loop
invariant-loop g l =
    (goal.iterator-loop g).can_next l.iterator' × (goal.iterator-loop g).is_finite l.iterator'
    × (l.port.element ≡ l.fn.port.element) × IsPrefix l.fn.port.history l.port.history
    × MakesOnly g.K.Name.origin.marks (λ call. call
    ≡ Commands (Confirm l.fn.port.element l.fn.upto)) l.fn.port l.port
