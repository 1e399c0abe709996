use Rattle.std.proofs.Common.{◌≡◌, false, List, length, Err, Option, Result, sym, refl, ap, ◌∙◌, subst}
use Rattle.im_types.specs.Types.{Request, Outcome, Line, Commands, Refusal, Failed, NoMemory, TraceFull, OffPlan}
use Rattle.im_types.specs.Types.{Contents, step}
use Rattle.{im_engine.specs.State.EngineState, im_session.specs.Keeping.KeepsPut, im_session.specs.Serving.served_one}
use Rattle.im_session.proofs.{KeepingLemmas.keeps_none, ServedLemmas.refused_same}
use Rattle.im_trace.proofs.{TimeLemmas.receipt-at, ToldLemmas.plain-receipt}
use Rattle.im_trace.specs.{Lines.memory_after, Lines.time_at, Log.LogState, Log.plain, Log.receipt_for}
use Rattle.im_controller.proofs.KeptLemmas.{session_lent, times_at, times_on}
use Rattle.im_controller.proofs.LendLemmas.{answered-memory, answered-so}
use Rattle.im_controller.proofs.PlannedLemmas.{keeps-line, keeps-starts, on-command, tells-of}
use Rattle.im_controller.proofs.ShownLemmas.{end-cells, lend-shown, lends-served, some_room, told-all}
use Rattle.im_controller.specs.{Lends.Lends, Planned.has_command, Planned.KeepsTo, State.SharedState}
use Rattle.im_controller.proofs.shared.lend.Goals as goal

pub returns-then-failed-clause-put : goal.returns-then-failed-clause-put
returns-then-failed-clause-put g c = refused_same c.args.shared.now.session c.args.command.now Failed refl

pub returns-then-failed-clause-keeps : goal.returns-then-failed-clause-keeps
returns-then-failed-clause-keeps g c = keeps_none g.D.Disk c.args.shared.now.session

pub returns-then-room-eq0-clause-put : goal.returns-then-room-eq0-clause-put
returns-then-room-eq0-clause-put g c = refused_same c.args.shared.now.session c.args.command.now TraceFull refl

pub returns-then-room-eq0-clause-keeps : goal.returns-then-room-eq0-clause-keeps
returns-then-room-eq0-clause-keeps g c = keeps_none g.D.Disk c.args.shared.now.session

pub returns-then-not-has_command-clause-put : goal.returns-then-not-has_command-clause-put
returns-then-not-has_command-clause-put g c = refused_same c.args.shared.now.session c.args.command.now OffPlan refl

pub returns-then-not-has_command-clause-keeps : goal.returns-then-not-has_command-clause-keeps
returns-then-not-has_command-clause-keeps g c = keeps_none g.D.Disk c.args.shared.now.session

pub returns-in-Err-clause-put : goal.returns-in-Err-clause-put
returns-in-Err-clause-put g c =
    let old = c.shared.inside.session in
    subst (λ (s : SharedState g.row.D.Denot). old ≡ served_one s.session c.args.command.now (Err NoMemory) old.engine)
    c.shared.view_is (refused_same old c.args.command.now NoMemory refl)

pub returns-in-Err-clause-keeps : goal.returns-in-Err-clause-keeps
returns-in-Err-clause-keeps g c =
    let old = c.shared.inside.session in
    subst (λ (s : SharedState g.row.D.Denot). KeepsPut g.D.Disk s.session old) c.shared.view_is
    (keeps_none g.D.Disk old)

pub leave-requires-clause-is_so : goal.leave-requires-clause-is_so
leave-requires-clause-is_so g c = λ told.
    answered-so c.shared.inside.session.engine c.serve_kept-answer.new.self.engine c.args.command.now
    c.serve_kept-answer.result c.serve_kept-answer.ensures.answered (ap (λ (x : EngineState g.row.D.Denot). x.failed)
    (sym c.engine-engine.ensures.state) ∙ (sym c.failed.ensures.failed ∙ c.if-failed.false)) told
    ∙ ap (λ (m : Contents). (step m c.args.command.now).answer) (sym c.shared.invariant.0)

pub put_ahead-requires : goal.put_ahead-requires
put_ahead-requires g c = record {
  cells = c.shared.invariant.2 ∙ sym (end-cells g.K.Name.origin.memory c.shared.inside.log.state.trace)
      ∙ ap (λ (m : Contents). length m.cells) (c.shared.invariant.0 ∙ sym (c.memory.ensures
      ∙ ap (λ (x : EngineState g.row.D.Denot). x.memory) c.engine-engine.ensures.state));
}

pub receipt-requires : goal.receipt-requires
receipt-requires g c =
    let done = c.serve_kept-answer in
    let e = c.shared.inside.session.engine in
    let state = c.engine-engine.ensures.state in
    let now = c.engine-after.ensures.state in
    let alive : e.failed ≡ false = ap (λ (x : EngineState g.row.D.Denot). x.failed) (sym state)
    ∙ sym c.failed.ensures.failed ∙ c.if-failed.false in
    let shown = lend-shown g.K.Name.origin.memory e done.new.self.engine c.args.command.now
    done.result done.ensures.answered alive c.memory.result.now.contents c.from-places.result
    (c.memory.ensures ∙ ap (λ (x : EngineState g.row.D.Denot). x.memory) state)
    (c.from-places.ensures ∙ c.room-2.ensures ∙ ap (λ (x : EngineState g.row.D.Denot). x.room) state)
    c.shared.inside.pane c.put_ahead.new.pane c.show_put-told.new.pane
    (c.shared.invariant.3 alive) c.in-Ok.ensures.ahead c.failed-in-Ok.result
    (c.failed-in-Ok.ensures.failed ∙ ap (λ (x : EngineState g.row.D.Denot). x.failed) now)
    c.show_put-told.ensures.shown c.show_put-told.ensures.hidden
    c.shared.inside.log.state.trace c.leave.new.self.state.trace c.shared.invariant.0 c.shared.invariant.1
    (ap (λ (l : LogState). l.trace) c.leave.ensures.log) in
    record {
      ends = (c.shared.inside.log.state.trace, ap (λ (l : LogState). l.trace) c.leave.ensures.log);
      told = told-all g.K.Name.origin.memory c.leave.new.self.state.trace c.show_put-told.result
          (c.show_put-told.ensures.told ∙ shown.ends);
    }

pub invariant_of-shared : goal.invariant_of-shared
invariant_of-shared g c =
    let done = c.serve_kept-answer in
    let k = g.K.Name.origin in let m = k.memory in let plan = k.plan in
    let s = c.shared.inside.session in let t = done.new.self in
    let e = s.engine in let f = t.engine in let trace = c.shared.inside.log.state.trace in
    let state = c.engine-engine.ensures.state in
    let now = c.engine-after.ensures.state in
    let alive : e.failed ≡ false = ap (λ (x : EngineState g.row.D.Denot). x.failed) (sym state)
    ∙ sym c.failed.ensures.failed ∙ c.if-failed.false in
    let failed = c.failed-in-Ok.ensures.failed ∙ ap (λ (x : EngineState g.row.D.Denot). x.failed) now in
    let lines = ap (λ (l : LogState). l.trace) c.leave.ensures.log in
    let ends = c.leave.ensures.end
    ∙ ap (λ (n : Contents). memory_after n (Commands c.args.command.now) done.result) c.shared.invariant.0
    ∙ sym (answered-memory e f c.args.command.now done.result done.ensures.answered alive) in
    let shown = lend-shown m e f c.args.command.now done.result done.ensures.answered alive
    c.memory.result.now.contents c.from-places.result
    (c.memory.ensures ∙ ap (λ (x : EngineState g.row.D.Denot). x.memory) state)
    (c.from-places.ensures ∙ c.room-2.ensures ∙ ap (λ (x : EngineState g.row.D.Denot). x.room) state)
    c.shared.inside.pane c.put_ahead.new.pane c.show_put-told.new.pane
    (c.shared.invariant.3 alive) c.in-Ok.ensures.ahead c.failed-in-Ok.result failed
    c.show_put-told.ensures.shown c.show_put-told.ensures.hidden trace c.leave.new.self.state.trace
    c.shared.invariant.0 c.shared.invariant.1 lines in
    let on = on-command m plan c.args.command.now (keeps-starts m plan trace c.shared.invariant.8)
    (ap (λ (p : Option (List Request)). has_command p c.args.command.now) (sym c.shared.invariant.7)
    ∙ sym c.has_command.ensures ∙ c.if-not-has_command.false) in
    let keeps = done.ensures.keeps in
    let next = session_lent g.D.Disk k trace s t c.shared.invariant.4 keeps c.leave.new.self.state.trace
    c.args.command.now done.result done.ensures.answered alive done.ensures.put
    c.shared.invariant.0 lines on in (
      ends,
      shown.ends,
      shown.pane.cells ∙ c.shared.invariant.2,
      (λ living. shown.pane.ahead (failed ∙ living)),
      next,
      (λ honest. times_at g.D.Disk k (length (g.D.Disk.past c.disk.result.now)) c.shared.inside.log c.leave.new.self t
          (ap (λ d. length (g.D.Disk.past d))
          (c.disk.ensures ∙ ap (λ (x : EngineState g.row.D.Denot). x.disk) now))
          c.leave.ensures.times c.engine-after.ensures.kept next honest
          (times_on g.D.Disk k trace c.shared.inside.log.times s t c.shared.invariant.4 keeps honest
          (c.shared.invariant.5 (keeps.honest honest)))),
      c.shared.invariant.6,
      c.shared.invariant.7,
      subst (λ (ls : List Line). KeepsTo m plan ls) (sym lines)
          (keeps-line m trace (Commands c.args.command.now) done.result plan c.shared.invariant.8 on),
    )

pub returns-in-Ok-clause-lends : goal.returns-in-Ok-clause-lends
returns-in-Ok-clause-lends g c =
    let done = c.serve_kept-answer in
    let e = c.shared.inside.session.engine in
    let f = done.new.self.engine in
    let state = c.engine-engine.ensures.state in
    let now = c.engine-after.ensures.state in
    let alive : e.failed ≡ false = ap (λ (x : EngineState g.row.D.Denot). x.failed) (sym state)
    ∙ sym c.failed.ensures.failed ∙ c.if-failed.false in
    let at = time_at c.leave.new.self.times (length c.leave.new.self.state.trace) in
    let time = length (g.D.Disk.past f.disk) in
    let is = c.receipt.ensures.receipt
    ∙ ap (λ l. receipt_for c.leave.new.self.state.trace at l c.args.command.now done.result)
    c.show_put-told.ensures.told
    ∙ receipt-at c.leave.new.self.state.trace at time c.show_put-told.new.pane.shown c.args.command.now
    done.result
    (λ left. c.leave.ensures.time left ∙ ap (λ d. length (g.D.Disk.past d))
    (c.disk.ensures ∙ ap (λ (x : EngineState g.row.D.Denot). x.disk) now)) in
    let room = some_room c.room.result _ _ c.if-room-eq0.false c.room.ensures.room in
    let shown = lend-shown g.K.Name.origin.memory e f c.args.command.now
    done.result done.ensures.answered alive c.memory.result.now.contents c.from-places.result
    (c.memory.ensures ∙ ap (λ (x : EngineState g.row.D.Denot). x.memory) state)
    (c.from-places.ensures ∙ c.room-2.ensures ∙ ap (λ (x : EngineState g.row.D.Denot). x.room) state)
    c.shared.inside.pane c.put_ahead.new.pane c.show_put-told.new.pane
    (c.shared.invariant.3 alive) c.in-Ok.ensures.ahead c.failed-in-Ok.result
    (c.failed-in-Ok.ensures.failed ∙ ap (λ (x : EngineState g.row.D.Denot). x.failed) now)
    c.show_put-told.ensures.shown c.show_put-told.ensures.hidden
    c.shared.inside.log.state.trace c.leave.new.self.state.trace c.shared.invariant.0 c.shared.invariant.1
    (ap (λ (l : LogState). l.trace) c.leave.ensures.log) in
    let s' : SharedState g.row.D.Denot = record {
      session = done.new.self;
      log = c.leave.new.self.state;
      servers = c.shared.inside.servers;
      shown = c.show_put-told.new.pane.shown;
    } in
    subst (λ (s : SharedState g.row.D.Denot). Lends g.D.Disk g.K.Name.origin s c.args.tally.now
    c.args.command.now c.receipt.result s' c.leave.new.tally) c.shared.view_is
    (lends-served g.D.Disk g.K.Name.origin _ s' c.args.tally.now c.leave.new.tally c.args.command.now
    done.result c.receipt.result is alive room
    (ap (λ (p : Option (List Request)). has_command p c.args.command.now) (sym c.shared.invariant.7)
    ∙ sym c.has_command.ensures ∙ c.if-not-has_command.false)
    done.ensures.answered c.leave.ensures.log refl c.leave.ensures.tally shown.pane.is)

pub returns-in-Ok-clause-put : goal.returns-in-Ok-clause-put
returns-in-Ok-clause-put g c =
    let done = c.serve_kept-answer in
    let t = done.new.self in
    let same = sym (ap plain c.receipt.ensures.receipt
    ∙ plain-receipt c.leave.new.self.state.trace _ c.show_put-told.result c.args.command.now done.result) in
    subst (λ (s : SharedState g.row.D.Denot). t ≡ served_one s.session c.args.command.now (plain c.receipt.result)
    t.engine) c.shared.view_is
    (done.ensures.put ∙ ap (λ (a : Result Outcome Refusal). served_one c.shared.inside.session
    c.args.command.now a t.engine) same)

pub returns-in-Ok-clause-keeps : goal.returns-in-Ok-clause-keeps
returns-in-Ok-clause-keeps g c = subst (λ (s : SharedState g.row.D.Denot). KeepsPut g.D.Disk s.session
    c.serve_kept-answer.new.self) c.shared.view_is c.serve_kept-answer.ensures.keeps

pub returns-in-Ok-clause-planned : goal.returns-in-Ok-clause-planned
returns-in-Ok-clause-planned g c =
    let done = c.serve_kept-answer in
    let m = g.K.Name.origin.memory in let trace = c.shared.inside.log.state.trace in
    tells-of m g.K.Name.origin.plan c.leave.new.self.state.trace c.receipt.result
    (subst (λ (ls : List Line). KeepsTo m g.K.Name.origin.plan ls)
    (sym (ap (λ (l : LogState). l.trace) c.leave.ensures.log))
    (keeps-line m trace (Commands c.args.command.now) done.result g.K.Name.origin.plan c.shared.invariant.8
    (on-command m g.K.Name.origin.plan c.args.command.now
    (keeps-starts m g.K.Name.origin.plan trace c.shared.invariant.8)
    (ap (λ (p : Option (List Request)). has_command p c.args.command.now) (sym c.shared.invariant.7)
    ∙ sym c.has_command.ensures ∙ c.if-not-has_command.false))))
    c.receipt.ensures.proof
