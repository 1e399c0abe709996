use Rattle.std.proofs.Common.{sym, ap, ◌∙◌}
use Rattle.im_types.specs.Types.{Reply, Waiter, Answered}
use Rattle.im_istore.proofs.Cells.{AgreeBut-inside}
use Rattle.im_memory.proofs.TouchLemmas.{store-among, store-change}
use Rattle.im_memory.proofs.acts.store.Goals as goal

anyone : Waiter
anyone = record { element = 0; number = 0 }

pub returns-in-Stored-clause-acted : goal.returns-in-Stored-clause-acted
returns-in-Stored-clause-acted c = record {
  cells = c.store-reply.ensures.cells anyone;
  told = c.store-reply.ensures.reply anyone;
  replies = sym (c.store-reply.ensures.readers anyone c.in-Stored.is);
  listed = AgreeBut-inside _ _ _ (c.store-reply.ensures.draining c.in-Stored.is);
  agree = c.store-reply.ensures.draining c.in-Stored.is;
}

pub returns-in_default-clause-acted : goal.returns-in_default-clause-acted
returns-in_default-clause-acted c = rw c.told.ensures (record {
  cells = c.store-reply.ensures.cells anyone;
  told = c.store-reply.ensures.reply anyone;
  replies = sym (c.store-reply.ensures.nobody anyone c.in_default.not-Stored);
  listed = tt;
  agree = c.store-reply.ensures.agree c.in_default.not-Stored;
})

pub returns-in-Stored-clause-among : goal.returns-in-Stored-clause-among
returns-in-Stored-clause-among c =
    store-among c.args.table.now c.args.arena.now c.requires c.args.a c.args.value
    (ap (λ (r : Reply). Answered r) (sym c.in-Stored.is) ∙ c.store-reply.ensures.reply anyone)

pub returns-in-Stored-clause-changes : goal.returns-in-Stored-clause-changes
returns-in-Stored-clause-changes c =
    store-change c.args.table.now c.store-reply.new.table c.args.arena.now c.args.a c.args.value c.store-reply.ensures.kept.others c.store-reply.ensures.kept.refused

pub returns-in_default-clause-changes : goal.returns-in_default-clause-changes
returns-in_default-clause-changes c =
    store-change c.args.table.now c.store-reply.new.table c.args.arena.now c.args.a c.args.value c.store-reply.ensures.kept.others c.store-reply.ensures.kept.refused
