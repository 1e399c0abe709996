use Rattle.std.proofs.Common.{sym}
use Rattle.im_types.specs.Types.{Waiter}
use Rattle.im_memory.proofs.TouchLemmas.{put-change, put-served}
use Rattle.im_memory.proofs.acts.put.Goals as goal

anyone : Waiter
anyone = record { element = 0; number = 0 }

pub returns-in-Some-clause-acted : goal.returns-in-Some-clause-acted
returns-in-Some-clause-acted c = record {
  cells = c.put-reply.ensures.cells anyone;
  told = c.put-reply.ensures.reply anyone;
  replies = sym (rw c.in-Some.is at (c.put-reply.ensures.taker anyone));
  listed = tt;
  agree = c.put-reply.ensures.agree;
}

pub returns-in-None-clause-acted : goal.returns-in-None-clause-acted
returns-in-None-clause-acted c = rw c.told.ensures (record {
  cells = c.put-reply.ensures.cells anyone;
  told = c.put-reply.ensures.reply anyone;
  replies = sym (rw c.in-None.is at (c.put-reply.ensures.taker anyone));
  listed = tt;
  agree = c.put-reply.ensures.agree;
})

pub returns-in-Some-clause-changes : goal.returns-in-Some-clause-changes
returns-in-Some-clause-changes c =
    put-served c.args.table.now c.put-reply.new.table c.args.arena.now c.put-reply.new.arena c.requires c.args.a c.args.value c.put-reply.ensures.kept.others c.put-reply.ensures.kept.refused
    c.in-Some.taker (rw c.in-Some.is at (c.put-reply.ensures.taker anyone))
    (rw c.in-Some.is at c.put-reply.ensures.links)

pub returns-in-None-clause-changes : goal.returns-in-None-clause-changes
returns-in-None-clause-changes c =
    put-change c.args.table.now c.put-reply.new.table c.args.arena.now c.put-reply.new.arena c.requires c.args.a c.args.value c.put-reply.ensures.kept.others c.put-reply.ensures.kept.refused
    (rw c.in-None.is at c.put-reply.ensures.links)
