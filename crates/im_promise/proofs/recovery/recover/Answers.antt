use Rattle.std.proofs.Common.{◌≡◌, false, sym, ◌∙◌, subst}
use Rattle.{im_laws.proofs.Tests.true_false, im_disk.specs.Fuse.Fused, im_engine.specs.State.EngineState}
use Rattle.im_session.specs.{Events.after_events, Events.AnsweredInTurn, Kept.SessionState}
use Rattle.im_promise.proofs.{Answering.Known, Answering.told, SessionLemmas.recovered}
use Rattle.im_promise.proofs.Reopening.{under, under_err}
use Rattle.im_promise.specs.Recovery.{HasNoRoom, Recovers}
use Rattle.im_promise.proofs.recovery.recover.Goals as goal

pub returns-then-failed-clause-recovers : goal.returns-then-failed-clause-recovers
returns-then-failed-clause-recovers c =
    let s : EngineState Fused = c.args.engine in
    under (s.failed ≡ false)
    (λ x. Recovers s.memory s.count s.ahead c.args.events.now x.answers.items x.engine.memory x.engine.count)
    c.recover_failed.result
    (λ f. absurd (true_false (sym c.if-failed.true ∙ c.failed.ensures.failed ∙ f)))

pub returns-then-failed-clause-refused : goal.returns-then-failed-clause-refused
returns-then-failed-clause-refused c =
    under_err (c.args.engine.failed ≡ false) HasNoRoom c.recover_failed.result
    (λ f. absurd (true_false (sym c.if-failed.true ∙ c.failed.ensures.failed ∙ f)))

pub returns-in-Ok-recover_session-clause-recovers : goal.returns-in-Ok-recover_session-clause-recovers
returns-in-Ok-recover_session-clause-recovers c = λ f.
    let s : EngineState Fused = c.args.engine in
    let new : SessionState Fused = c.run.new.self in
    let events = c.args.events.now in
    let answers = c.in-Ok.answers.items in
    let known : Known = record {
      ok = c.accepted_where_changed.ensures.answered;
      step = c.steps_tell_of_no_failure.ensures;
      memory = c.groups_are_runs.ensures.memory;
      count = c.groups_are_runs.ensures.count;
      put = c.groups_acknowledge_what_they_put.ensures.put;
      works = c.groups_acknowledge_what_they_put.ensures.works;
      fault = c.groups_acknowledge_what_they_put.ensures.fault;
      dead = c.groups_acknowledge_what_they_put.ensures.dead;
    } in
    let answered = subst (λ (x : SessionState Fused). AnsweredInTurn x.engine events answers new.engine)
    c.of-session.ensures c.in-Ok.ensures.answers in
    let put = subst (λ (x : SessionState Fused). new ≡ after_events x events answers new.engine) c.of-session.ensures
    c.in-Ok.ensures.put in
    recovered s new events answers put (told known s new.engine events answers f answered)
    c.in-Ok-recover_session.engine.memory c.in-Ok-recover_session.engine.count c.in-Ok-recover_session.ensures.recovers
