use Rattle.im_memory.proofs.{ActLemmas.releasable-found, ActLemmas.reset-HasActed, TouchLemmas.reset-change}
use Rattle.im_memory.proofs.acts.reset.Goals as goal

pub returns-then-reset-clause-acted : goal.returns-then-reset-clause-acted
returns-then-reset-clause-acted c =
    rw c.if-reset.ensures.emptied
    (reset-HasActed c.args.table.now c.args.arena.now c.requires c.args.a c.if-reset.ensures.done)

pub returns-then-reset-clause-changes : goal.returns-then-reset-clause-changes
returns-then-reset-clause-changes c =
    let it = releasable-found c.args.table.now c.args.arena.now c.requires c.args.a c.if-reset.ensures.done in
    rw c.if-reset.ensures.emptied (reset-change c.args.table.now c.args.arena.now c.args.a it.block it.at it.base)
