use Rattle.std.proofs.Common.{◌<◌, length}
use Rattle.im_bench.proofs.lists.pop.Given as goal

abbrev pub invariant-loop-number : goal.invariant-loop-number
invariant-loop-number l = 0 < length l.arena.held.lists

abbrev pub invariant-loop : goal.invariant-loop
invariant-loop l = 0 < length l.arena.held.lists
