use Rattle.std.proofs.Common.{arith}
use Rattle.im_arena.proofs.Views.{free-count, sum-count}
use Rattle.im_arena.proofs.Arena.free_count.Goals as goal

pub returns-clause-free : goal.returns-clause-free
returns-clause-free c = rw (← c.self.view_is) (omega (arith, free-count _ _ _ _ c.self.invariant))

pub returns-clause-sum : goal.returns-clause-sum
returns-clause-sum c = rw (← c.self.view_is) (omega (arith, sum-count _ _ _ _ c.self.invariant))
