use Rattle.std.proofs.Common.{◌≡◌, ◌+◌, ◌≤◌, length, sum_by}
use Rattle.std.specs.List.{AllByRecursion}
use mathlib.Core.List.{IsPrefix}

abbrev pub invariant-loop-port : Rattle.im_controller.proofs.finishing.take_all_back.Given.invariant-loop-port
invariant-loop-port g l =
    (l.log.back + length l.port-iterator.rest.items ≡ l.fn.log.back + length l.fn.ports.items)
    × (l.log.told.lines + sum_by (λ p. p.told.lines) l.port-iterator.rest.items
    ≡ l.fn.log.told.lines + sum_by (λ p. p.told.lines) l.fn.ports.items)
    × (l.log.told.marked + sum_by (λ p. p.told.marked) l.port-iterator.rest.items
    ≡ l.fn.log.told.marked + sum_by (λ p. p.told.marked) l.fn.ports.items)
    × (l.log.back ≤ g.K.Name.origin.ports)
    × ((l.log.trace ≡ l.fn.log.trace) × (l.log.times ≡ l.fn.log.times))
    × (l.log.claimed ≡ l.fn.log.claimed)
    × (AllByRecursion (λ p. IsPrefix p.history l.fn.log.trace) l.port-iterator.rest.items
    → AllByRecursion (λ p. IsPrefix p.history l.fn.log.trace) l.fn.ports.items)
