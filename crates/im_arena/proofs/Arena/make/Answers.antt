use Rattle.std.proofs.Common.{arith}
use Rattle.im_arena.proofs.Start.{held-start, IsArena-start}
use Rattle.im_arena.proofs.Arena.make.Goals as goal

pub invariant_of-result : goal.invariant_of-result
invariant_of-result c = rw c.in_ok-rows_of.ensures
    (IsArena-start _ c.args.lists c.args.nodes c.in_ok-free_nodes.ensures (omega arith))

pub returns-clause-empty : goal.returns-clause-empty
returns-clause-empty c = rw c.in_ok-rows_of.ensures
    (held-start _ c.args.lists c.args.nodes c.in_ok-free_nodes.ensures (omega arith))
