use Rattle.std.proofs.Common.{[], sym, ◌∙◌, append-nil}
use Rattle.im_istore.proofs.Draining.{behind, resumed_are}
use Rattle.im_istore.proofs.store_and_drain.Goals as goal

pub returns-in_default-clause-resumed : goal.returns-in_default-clause-resumed
returns-in_default-clause-resumed c = λ who. behind c.args.readers.now.items _ [] c.args.value _
    (c.store-reply.ensures.nobody who c.in_default.not-Stored) (sym (append-nil _))

pub returns-in_default-clause-values : goal.returns-in_default-clause-values
returns-in_default-clause-values c = λ who.
    (resumed_are [] c.args.value _ (c.store-reply.ensures.nobody who c.in_default.not-Stored)).1

pub returns-clause-cells : goal.returns-clause-cells
returns-clause-cells c = λ who. c.drain.ensures.cells _ (c.store-reply.ensures.draining c.in-Stored.is)
    ∙ c.store-reply.ensures.cells who

pub returns-clause-resumed : goal.returns-clause-resumed
returns-clause-resumed c = λ who. behind c.args.readers.now.items _ _ c.args.value _
    (c.store-reply.ensures.readers who c.in-Stored.is) c.drain.ensures.readers

pub returns-clause-values : goal.returns-clause-values
returns-clause-values c = λ who. (resumed_are _ c.args.value _ (c.store-reply.ensures.readers who c.in-Stored.is)).1
