use Rattle.std.proofs.Common.{arith}
use Rattle.im_memory.proofs.{ActLemmas.placed-HasActed, ActLemmas.unplaced-HasActed, TouchLemmas.placed-change}
use Rattle.im_memory.proofs.acts.allocate.Goals as goal

pub returns-in-Some-clause-acted : goal.returns-in-Some-clause-acted
returns-in-Some-clause-acted c =
    rw c.in-Some.ensures.made
    (placed-HasActed c.args.table.now c.args.arena.now c.requires c.args.kind c.args.n c.in-Some.base
    (λ none. omega arith) c.in-Some.ensures.place c.in-Some.ensures.least)

pub returns-in-Some-clause-changes : goal.returns-in-Some-clause-changes
returns-in-Some-clause-changes c =
    rw c.in-Some.ensures.made
    (placed-change c.args.table.now c.args.arena.now c.args.kind c.args.n c.in-Some.base _ c.in-Some.ensures.place)

pub returns-in-None-clause-acted : goal.returns-in-None-clause-acted
returns-in-None-clause-acted c =
    rw c.in-None.ensures.same
    (unplaced-HasActed c.args.table.now c.args.arena.now c.requires c.args.kind c.args.n
    (λ none. omega arith) c.in-None.ensures.place)
