use Rattle.std.proofs.Common.{length}
use Rattle.im_types.specs.Types.{AreApart}
use Rattle.im_engine.proofs.groups.are_apart.Given as goal

abbrev pub invariant-loop-first : goal.invariant-loop-first
invariant-loop-first l = record {
  back : AreApart l.rest → AreApart l.members;
  on : AreApart l.members → AreApart l.rest;
}

abbrev pub decreases-loop-first : goal.decreases-loop-first
decreases-loop-first l = length l.rest
