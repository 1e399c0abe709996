use Rattle.im_memory.proofs.{ActLemmas.releasable-found, ActLemmas.released-HasActed, TouchLemmas.released-change}
use Rattle.im_memory.proofs.acts.release.Goals as goal

pub returns-then-release-clause-acted : goal.returns-then-release-clause-acted
returns-then-release-clause-acted c =
    rw c.if-release.ensures.released
    (released-HasActed c.args.table.now c.args.arena.now c.requires c.args.a c.if-release.ensures.done)

pub returns-then-release-clause-changes : goal.returns-then-release-clause-changes
returns-then-release-clause-changes c =
    let it = releasable-found c.args.table.now c.args.arena.now c.requires c.args.a c.if-release.ensures.done in
    rw c.if-release.ensures.released (released-change c.args.table.now c.args.arena.now c.args.a it.block it.at it.base)
