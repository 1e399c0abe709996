use Rattle.std.proofs.Common.{refl}
use Rattle.{im_types.specs.Types.told, im_controller.specs.Waits.found_entry}
use Rattle.im_serving.proofs.AnswerLemmas.{looked_found, looked_none, looked_same, sees_found, sees_longer}
use Rattle.im_serving.proofs.CallsLemmas.{own_look}
use Rattle.im_serving.proofs.awaiting.await_one.Goals as goal

pub returns-then-is_told-clause-looked : goal.returns-then-is_told-clause-looked
returns-then-is_told-clause-looked g c = looked_none _ _ _ _

pub returns-in-Ok-clause-looked : goal.returns-in-Ok-clause-looked
returns-in-Ok-clause-looked g c =
    let a = c.await_answer in
    looked_found c.args.port.now.history a.new.self.history c.args.port.now.element c.args.served.now.first
    c.args.number c.args.served.now.entries.items c.note.new.self.entries.items c.entry.result c.note.ensures.noted
    (sees_found _ _ _ _ a.result c.in-Ok.found c.entry.result c.in-Ok.is c.entry.ensures.entry a.ensures.order)

pub returns-in-Err-clause-looked : goal.returns-in-Err-clause-looked
returns-in-Err-clause-looked g c =
    looked_same _ _ _ _ _ (sees_longer _ _ _ _ c.await_answer.result c.await_answer.ensures.order)

pub returns-then-is_told-clause-alone : goal.returns-then-is_told-clause-alone
returns-then-is_told-clause-alone g c = λ quiet. refl

pub returns-in-Ok-clause-alone : goal.returns-in-Ok-clause-alone
returns-in-Ok-clause-alone g c =
    own_look g.K.Name.origin.marks c.args.served.now.first c.note.new.self.untold c.args.number
    (told (found_entry c.await_answer.result)) c.args.port.now c.await_answer.new.self c.await_answer.ensures.counts

pub returns-in-Err-clause-alone : goal.returns-in-Err-clause-alone
returns-in-Err-clause-alone g c =
    own_look g.K.Name.origin.marks c.args.served.now.first c.args.served.now.untold c.args.number
    (told (found_entry c.await_answer.result)) c.args.port.now c.await_answer.new.self c.await_answer.ensures.counts
