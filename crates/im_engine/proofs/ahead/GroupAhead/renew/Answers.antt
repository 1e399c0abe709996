use Rattle.std.proofs.Common.{length, sym, ap, ◌∙◌, arith}
use Rattle.im_engine.proofs.{Chaining.some_put, Chaining.whole_put, Members.put_all}
use Rattle.im_engine.proofs.ahead.GroupAhead.renew.Goals as goal

pub returns-then-whole-clause-put : goal.returns-then-whole-clause-put
returns-then-whole-clause-put c = whole_put c.is_whole-whole.result _ _ c.if-whole.true ∙ c.copy_members.ensures
    ∙ sym (c.requires.whole (sym c.is_whole-whole.ensures ∙ c.if-whole.true))

pub returns-clause-put : goal.returns-clause-put
returns-clause-put c = some_put c.is_whole-whole.result _ _ c.if-whole.false ∙ c.copy_members-2.ensures
    ∙ c.as_slice.ensures.value

pub returns-clause-taken : goal.returns-clause-taken
returns-clause-taken c = λ some. put_all _ c.clear-3.new.self.items c.try_extend_from_slice-room.new.self.items
    c.args.coming.now.taken.now _ c.try_extend_from_slice-room.ensures.variant
    (omega (arith, c.requires.few.1, ap length c.clear-3.ensures))
    c.try_extend_from_slice-room.ensures.ok c.clear-3.ensures
