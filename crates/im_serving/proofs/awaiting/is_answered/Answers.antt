use Rattle.std.proofs.Common.{refl}
use Rattle.{im_types.specs.Types.told, im_controller.specs.Waits.found_entry}
use Rattle.im_serving.proofs.AnswerLemmas.{looked_found, looked_none, looked_same, sees_found, sees_longer}
use Rattle.im_serving.proofs.CallsLemmas.{own_look}
use Rattle.im_serving.proofs.ToldLemmas.{same_none, tells_as, tells_next, tells_none}
use Rattle.im_serving.proofs.awaiting.is_answered.Goals as goal

pub returns-then-is_told-clause-looked : goal.returns-then-is_told-clause-looked
returns-then-is_told-clause-looked g c = looked_none _ _ _ _

pub returns-in-Ok-clause-looked : goal.returns-in-Ok-clause-looked
returns-in-Ok-clause-looked g c =
    let a = c.collect in
    looked_found c.args.port.now.history a.new.self.history c.args.port.now.element c.args.served.now.first
    c.args.number c.args.served.now.entries.items c.learn.new.served.entries.items c.entry-entry.result
    c.learn.ensures.noted
    (sees_found _ _ _ _ a.result c.in-Ok.found c.entry-entry.result c.in-Ok.is c.entry-entry.ensures.entry
    a.ensures.order)

pub returns-in-Err-clause-looked : goal.returns-in-Err-clause-looked
returns-in-Err-clause-looked g c =
    looked_same _ _ _ _ _ (sees_longer _ _ _ _ c.collect.result c.collect.ensures.order)

pub returns-then-is_told-clause-told : goal.returns-then-is_told-clause-told
returns-then-is_told-clause-told g c = tells_none _ _ _ _

pub returns-in-Ok-clause-told : goal.returns-in-Ok-clause-told
returns-in-Ok-clause-told g c =
    let a = c.collect in
    tells_next c.args.port.now.history a.new.self.history c.args.port.now.element c.args.number c.entry-entry.result
    c.args.served.now c.learn.new.served _ _ c.learn.ensures.told
    (sees_found _ _ _ _ a.result c.in-Ok.found c.entry-entry.result c.in-Ok.is c.entry-entry.ensures.entry
    a.ensures.order)

pub returns-in-Err-clause-told : goal.returns-in-Err-clause-told
returns-in-Err-clause-told g c =
    let was = c.args.port.now in
    tells_as was.history was.history c.collect.new.self.history was.element c.args.served.now c.args.served.now
    c.args.served.now _ _ (sees_longer _ _ _ _ c.collect.result c.collect.ensures.order) (same_none c.args.served.now)
    (tells_none was.history was.element c.args.served.now _)

pub returns-then-is_told-clause-alone : goal.returns-then-is_told-clause-alone
returns-then-is_told-clause-alone g c = λ quiet. refl

pub returns-in-Ok-clause-alone : goal.returns-in-Ok-clause-alone
returns-in-Ok-clause-alone g c =
    own_look g.K.Name.origin.marks c.args.served.now.first c.learn.new.served.untold c.args.number
    (told (found_entry c.collect.result)) c.args.port.now c.collect.new.self c.collect.ensures.counts

pub returns-in-Err-clause-alone : goal.returns-in-Err-clause-alone
returns-in-Err-clause-alone g c =
    own_look g.K.Name.origin.marks c.args.served.now.first c.args.served.now.untold c.args.number
    (told (found_entry c.collect.result)) c.args.port.now c.collect.new.self c.collect.ensures.counts
