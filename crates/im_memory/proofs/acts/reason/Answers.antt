use Rattle.im_memory.proofs.ActLemmas.{absent-refused, inner-refused, waiting-refused}
use Rattle.im_memory.proofs.acts.reason.Goals as goal

pub returns-in-Some : goal.returns-in-Some
returns-in-Some c =
    waiting-refused c.args.table.now c.args.arena.now c.requires.agree c.args.a c.in-Some.block c.in-Some.ensures.block c.if-block-a.true c.requires.stays

pub returns-in_default : goal.returns-in_default
returns-in_default c =
    inner-refused c.args.table.now c.args.arena.now c.requires.agree c.args.a c.in-Some.block c.in-Some.ensures.block c.if-block-a.false

pub returns-in_default-2 : goal.returns-in_default-2
returns-in_default-2 c = absent-refused c.args.table.now c.args.arena.now c.requires.agree c.args.a c.in_default.ensures.block
