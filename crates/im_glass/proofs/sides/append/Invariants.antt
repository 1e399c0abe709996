use Rattle.std.proofs.Common.{◌≡◌, drop}
use Rattle.im_glass.proofs.sides.append.Given as goal

abbrev pub invariant-loop : goal.invariant-loop
invariant-loop g l =
    (goal.iterator-loop g).can_next l.iterator' × (goal.iterator-loop g).is_finite l.iterator'
    × (l.both.desk ≡ l.fn.both.desk)
    × (drop l.both.behind l.both.log.items ≡ drop l.fn.both.behind l.fn.both.log.items)
