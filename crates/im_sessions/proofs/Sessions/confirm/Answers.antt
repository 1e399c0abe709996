use Rattle.std.proofs.Common.{arith}
use Rattle.im_sessions.proofs.WindowsLemmas.{confirm-err, confirm-ok, confirm-windows}
use Rattle.im_sessions.proofs.Sessions.confirm.Goals as goal

pub invariant_of-self : goal.invariant_of-self
invariant_of-self c =
    confirm-windows c.self.inside.windows.items c.args.element c.args.upto c.index_mut.result.now c.confirm.new.self
    (omega arith) c.index_mut.ensures.value c.self.invariant c.confirm.result c.confirm.ensures.confirmed c.confirm.ensures.bounds

pub returns-clause-ok : goal.returns-clause-ok
returns-clause-ok c =
    confirm-ok c.self.inside.windows.items c.args.element c.args.upto c.index_mut.result.now c.confirm.new.self
    (omega arith) c.index_mut.ensures.value c.args.self.now c.self.view_is c.confirm.result c.confirm.ensures.confirmed

pub returns-clause-err : goal.returns-clause-err
returns-clause-err c =
    confirm-err c.self.inside.windows.items c.args.element c.args.upto c.index_mut.result.now c.confirm.new.self
    (omega arith) c.index_mut.ensures.value c.args.self.now c.self.view_is c.confirm.result c.confirm.ensures.confirmed
