use Rattle.std.proofs.Common.{length}
use Rattle.im_engine.{proofs.Advancing.ahead_gone, proofs.Advancing.ahead_still, specs.Chain.laid_of}
use Rattle.im_engine.proofs.ahead.GroupAhead.forget_behind.Goals as goal

pub returns-then-is_empty-clause-members : goal.returns-then-is_empty-clause-members
returns-then-is_empty-clause-members c = ahead_still (length c.args.commands.now) c.is_empty.result
    c.args.self.now.members.items c.is_empty.ensures
    c.if-is_empty.true

pub returns-then-is_empty-clause-put : goal.returns-then-is_empty-clause-put
returns-then-is_empty-clause-put c = let a = c.args.self.now in
    ahead_still (length c.args.commands.now) c.is_empty.result (laid_of a.whole a.members.items a.commands.items)
    c.is_empty.ensures c.if-is_empty.true

pub returns-clause-members : goal.returns-clause-members
returns-clause-members c = ahead_gone (length c.args.commands.now) c.is_empty.result c.args.self.now.members.items _
    c.is_empty.ensures c.if-is_empty.false
    c.forget.ensures.members

pub returns-clause-put : goal.returns-clause-put
returns-clause-put c = let a = c.args.self.now in
    ahead_gone (length c.args.commands.now) c.is_empty.result (laid_of a.whole a.members.items a.commands.items) _
    c.is_empty.ensures c.if-is_empty.false
    c.forget.ensures.put
