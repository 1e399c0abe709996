use Rattle.std.proofs.Common.{◌≡◌, List, take, subst, arith, take_all, rules}
use Rattle.im_session.proofs.EventLemmas.{in_turn_fails, run_more, run_none}
use Rattle.im_session.specs.{declared.events.Event.Event, Events.after_events, Events.AnsweredInTurn}
use Rattle.im_session.proofs.session.Session.run.Goals as goal

pub loop-event-init : goal.loop-event-init
loop-event-init g c = record {
  kept = c.engine.ensures.kept;
  size = search rules;
  room = search rules;
  run = run_none g.D.Disk c.args.self.now c.args.events.now c.in-Ok.answers.items c.in-Ok.ensures.items;
}

pub loop-event-preserved : goal.loop-event-preserved
loop-event-preserved g c =
    let inv = c.loop-event.invariant in
    let e = c.take-answer.ensures in
    record {
      kept = inv.kept;
      size = search rules;
      room = search rules;
      run = run_more g.D.Disk c.args.self.now c.loop-event.self c.take-answer.new.self c.args.events.now
          c.loop-event.answers.items c.push.new.self.items c.loop-event.event-index _ c.event-item.result
          c.take-answer.result c.loop-event-test.true c.event-item.is inv.size c.in_default-push.ensures.items inv.kept
          c.engine-in-loop-event.ensures.kept inv.run e.answered e.put e.keeps.honest e.leaves;
    }

pub returns-clause-answers : goal.returns-clause-answers
returns-clause-answers g c = subst (λ (l : List Event). AnsweredInTurn c.args.self.now.engine l
    c.loop-event.answers.items c.loop-event.self.engine)
    (take_all c.loop-event.event-index c.args.events.now (omega (arith, c.loop-event-test.false)))
    c.loop-event.invariant.run.answered

pub returns-clause-put : goal.returns-clause-put
returns-clause-put g c = subst (λ (l : List Event). c.loop-event.self
    ≡ after_events c.args.self.now l c.loop-event.answers.items c.loop-event.self.engine)
    (take_all c.loop-event.event-index c.args.events.now (omega (arith, c.loop-event-test.false)))
    c.loop-event.invariant.run.put

pub returns-clause-leaves : goal.returns-clause-leaves
returns-clause-leaves g c = λ h f. c.loop-event.invariant.run.leaves h

pub returns-clause-honest : goal.returns-clause-honest
returns-clause-honest g c = c.loop-event.invariant.run.honest

pub returns-clause-faults : goal.returns-clause-faults
returns-clause-faults g c =
    (in_turn_fails c.args.self.now.engine c.loop-event.self.engine (take c.loop-event.event-index c.args.events.now)
    c.loop-event.answers.items c.loop-event.invariant.run.answered).0
