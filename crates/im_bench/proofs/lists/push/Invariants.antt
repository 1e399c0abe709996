use Rattle.std.proofs.Common.{◌<◌, length}

abbrev pub invariant-loop-number : Rattle.im_bench.proofs.lists.push.Given.invariant-loop-number
invariant-loop-number l = 0 < length l.arena.held.lists
