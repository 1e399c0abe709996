use Rattle.std.proofs.Common.{[], refl, arith, rules}
use Rattle.im_serving.proofs.AnswerLemmas.{looked_none, looked_on}
use Rattle.im_serving.proofs.{CallsLemmas.own_confirm, CallsLemmas.own_then, GlanceLemmas.glanced_more}
use Rattle.im_serving.proofs.ToldLemmas.{same_none, tells_as, tells_confirmed, tells_none}
use Rattle.im_serving.proofs.awaiting.make_place.Goals as goal

pub returns-in-Ok-confirm-clause-seen : goal.returns-in-Ok-confirm-clause-seen
returns-in-Ok-confirm-clause-seen g c =
    glanced_more g.K.Name.origin.memory c.args.port.now.element c.args.glances.now.last c.learn-confirmed.new.self.last
    c.args.glances.now.glance c.learn-confirmed.new.self.glance
    c.args.glances.now.made.items c.learn-confirmed.new.self.made.items c.learn-confirmed.ensures.kept
    (search rules) c.learn-confirmed.ensures.same.1

pub returns-in-Ok-confirm-clause-looked : goal.returns-in-Ok-confirm-clause-looked
returns-in-Ok-confirm-clause-looked g c =
    let f = c.first_waiting in
    looked_on c.args.port.now.history f.new.port.history c.confirm.new.port.history c.args.port.now.element
    c.args.served.now.first c.args.served.now.entries.items f.new.served.entries.items _ (search rules)
    c.confirm.ensures.longer f.ensures.looked

pub returns-in-Err-confirm-clause-looked : goal.returns-in-Err-confirm-clause-looked
returns-in-Err-confirm-clause-looked g c =
    let f = c.first_waiting in
    looked_on c.args.port.now.history f.new.port.history c.confirm.new.port.history c.args.port.now.element
    c.args.served.now.first c.args.served.now.entries.items f.new.served.entries.items _ (search rules)
    c.confirm.ensures.longer f.ensures.looked

pub returns-then-saturating_sub-lt-WINDOW-clause-looked : goal.returns-then-saturating_sub-lt-WINDOW-clause-looked
returns-then-saturating_sub-lt-WINDOW-clause-looked g c = looked_none _ _ _ _

pub returns-in-Ok-confirm-clause-told : goal.returns-in-Ok-confirm-clause-told
returns-in-Ok-confirm-clause-told g c =
    let f = c.first_waiting in
    tells_confirmed c.args.port.now.history f.new.port.history c.confirm.new.port.history c.args.port.now.element
    c.confirmable-upto.result c.args.served.now f.new.served _ _ _ c.confirm.ensures.longer (search rules)
    c.confirmable-upto.ensures f.ensures.told

pub returns-in-Err-confirm-clause-told : goal.returns-in-Err-confirm-clause-told
returns-in-Err-confirm-clause-told g c =
    let f = c.first_waiting in
    tells_as c.args.port.now.history f.new.port.history c.confirm.new.port.history c.args.port.now.element
    c.args.served.now f.new.served f.new.served _ _ c.confirm.ensures.longer (same_none f.new.served) f.ensures.told

pub returns-then-saturating_sub-lt-WINDOW-clause-told : goal.returns-then-saturating_sub-lt-WINDOW-clause-told
returns-then-saturating_sub-lt-WINDOW-clause-told g c = tells_none _ _ _ _

pub returns-in-Ok-confirm-clause-alone : goal.returns-in-Ok-confirm-clause-alone
returns-in-Ok-confirm-clause-alone g c =
    let f = c.first_waiting in
    own_then g.K.Name.origin.marks c.args.port.now.element f.new.port.element c.args.served.now.first
    f.new.served.first f.new.served.untold f.new.served.untold [] [] [] c.args.port.now f.new.port c.confirm.new.port
    f.ensures.element f.ensures.first (omega arith) ([], refl) ([], refl) f.ensures.alone
    (own_confirm g.K.Name.origin.marks f.new.port.element f.new.served.first f.new.served.untold
    c.confirmable-upto.result f.new.port c.confirm.new.port refl c.confirmable-upto.ensures c.confirm.ensures.alone)

pub returns-in-Err-confirm-clause-alone : goal.returns-in-Err-confirm-clause-alone
returns-in-Err-confirm-clause-alone g c =
    let f = c.first_waiting in
    own_then g.K.Name.origin.marks c.args.port.now.element f.new.port.element c.args.served.now.first
    f.new.served.first f.new.served.untold f.new.served.untold [] [] [] c.args.port.now f.new.port c.confirm.new.port
    f.ensures.element f.ensures.first (omega arith) ([], refl) ([], refl) f.ensures.alone
    (own_confirm g.K.Name.origin.marks f.new.port.element f.new.served.first f.new.served.untold
    c.confirmable-upto.result f.new.port c.confirm.new.port refl c.confirmable-upto.ensures c.confirm.ensures.alone)

pub returns-then-saturating_sub-lt-WINDOW-clause-alone : goal.returns-then-saturating_sub-lt-WINDOW-clause-alone
returns-then-saturating_sub-lt-WINDOW-clause-alone g c = λ quiet. refl
