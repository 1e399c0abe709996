use Rattle.std.proofs.Common.{[], refl, ◌∙◌}
use Rattle.im_serving.proofs.AnswerLemmas.{looked_none, looked_then}
use Rattle.im_serving.proofs.{CallsLemmas.at_most, CallsLemmas.own_then, ToldLemmas.same_none, ToldLemmas.same_then}
use Rattle.im_serving.proofs.awaiting.await_rest.Goals as goal

pub loop-number-init : goal.loop-number-init
loop-number-init g c = (refl, refl, looked_none _ _ _ _, same_none _, λ quiet. refl)

pub loop-number-preserved : goal.loop-number-preserved
loop-number-preserved g c =
    let l = c.loop-number in (
      c.await_one.ensures.element ∙ l.invariant.0,
      c.await_one.ensures.first ∙ l.invariant.1,
      looked_then c.args.port.now.history l.port.history c.await_one.new.port.history c.args.port.now.element
          l.port.element c.args.served.now.first l.served.first c.args.served.now.entries.items l.served.entries.items
          c.await_one.new.served.entries.items l.invariant.0 l.invariant.1 l.invariant.2 c.await_one.ensures.looked,
      same_then c.args.served.now l.served c.await_one.new.served l.invariant.3 c.await_one.ensures.same,
      own_then g.K.Name.origin.marks c.args.port.now.element l.port.element c.args.served.now.first l.served.first
          l.served.untold c.await_one.new.served.untold [] [] [] c.args.port.now l.port c.await_one.new.port
          l.invariant.0 l.invariant.1 (at_most _ _ c.await_one.ensures.same.untold) ([], refl) ([], refl)
          l.invariant.4 c.await_one.ensures.alone,
    )

pub returns-in-Err-clause-same : goal.returns-in-Err-clause-same
returns-in-Err-clause-same g c =
    let l = c.loop-number in
    same_then c.args.served.now l.served c.await_one.new.served l.invariant.3 c.await_one.ensures.same

pub returns-in-Err-clause-looked : goal.returns-in-Err-clause-looked
returns-in-Err-clause-looked g c =
    let l = c.loop-number in
    looked_then c.args.port.now.history l.port.history c.await_one.new.port.history c.args.port.now.element
    l.port.element c.args.served.now.first l.served.first c.args.served.now.entries.items l.served.entries.items
    c.await_one.new.served.entries.items l.invariant.0 l.invariant.1 l.invariant.2 c.await_one.ensures.looked

pub returns-in-Err-clause-alone : goal.returns-in-Err-clause-alone
returns-in-Err-clause-alone g c =
    let l = c.loop-number in
    own_then g.K.Name.origin.marks c.args.port.now.element l.port.element c.args.served.now.first l.served.first
    l.served.untold c.await_one.new.served.untold [] [] [] c.args.port.now l.port c.await_one.new.port
    l.invariant.0 l.invariant.1 (at_most _ _ c.await_one.ensures.same.untold) ([], refl) ([], refl)
    l.invariant.4 c.await_one.ensures.alone
