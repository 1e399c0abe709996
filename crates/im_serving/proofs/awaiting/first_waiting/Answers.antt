use Rattle.std.proofs.Common.{[], refl, ◌∙◌}
use Rattle.im_serving.proofs.{AnswerLemmas.looked_then, CallsLemmas.own_then}
use Rattle.im_serving.proofs.ToldLemmas.{tells_then, untold_grows}
use Rattle.im_serving.proofs.awaiting.first_waiting.Goals as goal

pub returns-in-Ok-false-clause-looked : goal.returns-in-Ok-false-clause-looked
returns-in-Ok-false-clause-looked g c =
    let l = c.loop-number in
    looked_then c.args.port.now.history l.port.history c.is_answered.new.port.history c.args.port.now.element
    l.port.element c.args.served.now.first l.served.first c.args.served.now.entries.items l.served.entries.items
    c.is_answered.new.served.entries.items l.invariant.0 l.invariant.1 l.invariant.2 c.is_answered.ensures.looked

pub returns-in-Err-is_answered-clause-looked : goal.returns-in-Err-is_answered-clause-looked
returns-in-Err-is_answered-clause-looked g c =
    let l = c.loop-number in
    looked_then c.args.port.now.history l.port.history c.is_answered.new.port.history c.args.port.now.element
    l.port.element c.args.served.now.first l.served.first c.args.served.now.entries.items l.served.entries.items
    c.is_answered.new.served.entries.items l.invariant.0 l.invariant.1 l.invariant.2 c.is_answered.ensures.looked

pub loop-number-preserved : goal.loop-number-preserved
loop-number-preserved g c =
    let l = c.loop-number in (
      c.is_answered.ensures.element ∙ l.invariant.0,
      c.is_answered.ensures.first ∙ l.invariant.1,
      looked_then c.args.port.now.history l.port.history c.is_answered.new.port.history c.args.port.now.element
          l.port.element c.args.served.now.first l.served.first c.args.served.now.entries.items l.served.entries.items
          c.is_answered.new.served.entries.items l.invariant.0 l.invariant.1 l.invariant.2 c.is_answered.ensures.looked,
      tells_then c.args.port.now.history l.port.history c.is_answered.new.port.history c.args.port.now.element
          l.port.element c.args.served.now l.served c.is_answered.new.served _ _ _ l.invariant.0
          l.invariant.3 c.is_answered.ensures.told,
      own_then g.K.Name.origin.marks c.args.port.now.element l.port.element c.args.served.now.first l.served.first
          l.served.untold c.is_answered.new.served.untold [] [] [] c.args.port.now l.port c.is_answered.new.port
          l.invariant.0 l.invariant.1 (untold_grows _ _ _ _ _ _ _ c.is_answered.ensures.told) ([], refl) ([], refl)
          l.invariant.4 c.is_answered.ensures.alone,
    )

pub returns-in-Ok-false-clause-told : goal.returns-in-Ok-false-clause-told
returns-in-Ok-false-clause-told g c =
    let l = c.loop-number in
    tells_then c.args.port.now.history l.port.history c.is_answered.new.port.history c.args.port.now.element
    l.port.element c.args.served.now l.served c.is_answered.new.served _ _ _ l.invariant.0
    l.invariant.3 c.is_answered.ensures.told

pub returns-in-Err-is_answered-clause-told : goal.returns-in-Err-is_answered-clause-told
returns-in-Err-is_answered-clause-told g c =
    let l = c.loop-number in
    tells_then c.args.port.now.history l.port.history c.is_answered.new.port.history c.args.port.now.element
    l.port.element c.args.served.now l.served c.is_answered.new.served _ _ _ l.invariant.0
    l.invariant.3 c.is_answered.ensures.told

pub returns-in-Ok-false-clause-alone : goal.returns-in-Ok-false-clause-alone
returns-in-Ok-false-clause-alone g c =
    let l = c.loop-number in
    own_then g.K.Name.origin.marks c.args.port.now.element l.port.element c.args.served.now.first l.served.first
    l.served.untold c.is_answered.new.served.untold [] [] [] c.args.port.now l.port c.is_answered.new.port
    l.invariant.0 l.invariant.1 (untold_grows _ _ _ _ _ _ _ c.is_answered.ensures.told) ([], refl) ([], refl)
    l.invariant.4 c.is_answered.ensures.alone

pub returns-in-Err-is_answered-clause-alone : goal.returns-in-Err-is_answered-clause-alone
returns-in-Err-is_answered-clause-alone g c =
    let l = c.loop-number in
    own_then g.K.Name.origin.marks c.args.port.now.element l.port.element c.args.served.now.first l.served.first
    l.served.untold c.is_answered.new.served.untold [] [] [] c.args.port.now l.port c.is_answered.new.port
    l.invariant.0 l.invariant.1 (untold_grows _ _ _ _ _ _ _ c.is_answered.ensures.told) ([], refl) ([], refl)
    l.invariant.4 c.is_answered.ensures.alone
