use Rattle.std.proofs.Common.{◌≡◌, false}
use Rattle.im_bench_threads.proofs.items.receive.Given as goal

abbrev pub invariant-loop : goal.invariant-loop
invariant-loop g l = (goal.iterator-loop g).can_next l.iterator' × (goal.iterator-loop g).is_finite l.iterator' × (l.outlet.ended ≡ false)
