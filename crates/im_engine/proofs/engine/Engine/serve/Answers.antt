use Rattle.std.proofs.Common.{◌≡◌, true, false, Ok, sym, ap, ◌∙◌, subst, inl}
use Rattle.{im_types.specs.Types.step, im_types.specs.Types.is_accepted, im_memory.specs.State.MemoryState}
use Rattle.im_disk.specs.Since.{CallsBy, LeavesNow}
use Rattle.im_checkpoint.specs.{Keeping.Fits, Keeping.IsKept, Keeping.paged, Step.changed_in}
use Rattle.im_engine.{proofs.Keeping.all_mean, specs.Answered.calls_for, specs.Chain.IsAhead, specs.Chain.laid_of}
use Rattle.im_engine.proofs.Serving.{accepts, answered_unaccepted, calls_accepted, calls_none}
use Rattle.im_engine.specs.State.{EngineState, MeansEither, MeansState, with_command}
use Rattle.im_engine.proofs.engine.Engine.serve.Goals as goal

pub invariant_of-self : goal.invariant_of-self
invariant_of-self g c =
    let e = c.self.inside in
    let un : is_accepted e.memory.contents c.args.command.now
    ≡ false = accepts e.memory.contents c.args.command.now false c.judge.result c.judge.ensures
    (c.in-Ok-false.is ∙ ap (λ b. Ok b) c.in-Ok-false.field-0-test) in
    let same : c.step.new.self ≡ e.memory = c.step.ensures.unaccepted un in (
      subst (λ (m : MemoryState). Fits e.checkpoint.state m.contents e.journal) (sym same) c.self.invariant.0,
      λ h f. subst (λ (m : MemoryState). IsKept e.checkpoint.state (paged e.checkpoint m) m.contents e.journal
          (g.D.Disk.now e.disk)) (sym same) (c.self.invariant.1 h f),
      subst (λ (m : MemoryState). IsAhead m.contents e.journal e.ahead.members.items
          (laid_of e.ahead.whole e.ahead.members.items e.ahead.commands.items) e.ahead.taken.items)
          (sym same) c.self.invariant.2,
    )

pub returns-in-Ok-true-clause-leaves : goal.returns-in-Ok-true-clause-leaves
returns-in-Ok-true-clause-leaves g c = λ h f. (c.accept.ensures.leaves h).within

pub returns-in-Ok-true-clause-doubt : goal.returns-in-Ok-true-clause-doubt
returns-in-Ok-true-clause-doubt g c = λ h f. (c.accept.ensures.leaves h).after

pub returns-in-Ok-true-clause-calls : goal.returns-in-Ok-true-clause-calls
returns-in-Ok-true-clause-calls g c = λ h.
    let e = c.self.inside in
    let accepted : is_accepted e.memory.contents c.args.command.now
    ≡ true = accepts e.memory.contents c.args.command.now true c.judge.result c.judge.ensures
    (c.in-Ok-true.is ∙ ap (λ b. Ok b) c.in-Ok-true.field-0-test) in
    calls_accepted g.D.Disk.past c.args.self.now.disk c.accept.new.self.disk c.args.self.now.memory c.args.command.now
    c.accept.result
    (sym (ap (λ (s : EngineState g.row.D.Denot). is_accepted s.memory c.args.command.now) c.self.view_is) ∙ accepted)
    (c.accept.ensures.calls h)

pub returns-in-Ok-false-clause-calls : goal.returns-in-Ok-false-clause-calls
returns-in-Ok-false-clause-calls g c = λ h.
    let e = c.self.inside in
    let un : is_accepted e.memory.contents c.args.command.now
    ≡ false = accepts e.memory.contents c.args.command.now false c.judge.result c.judge.ensures
    (c.in-Ok-false.is ∙ ap (λ b. Ok b) c.in-Ok-false.field-0-test) in
    subst (λ (s : EngineState g.row.D.Denot). CallsBy g.D.Disk.past s.disk e.disk
    (calls_for s.memory c.args.command.now) c.step.result) c.self.view_is
    (calls_none g.D.Disk.past e.disk e.memory.contents c.args.command.now c.step.result un)

pub returns-in-Ok-false-clause-doubt : goal.returns-in-Ok-false-clause-doubt
returns-in-Ok-false-clause-doubt g c =
    let e = c.self.inside in
    subst (λ (s : EngineState g.row.D.Denot). g.D.Disk.honest e.disk → s.failed ≡ false
    → LeavesNow (g.D.Disk.now e.disk) (MeansEither s (with_command s c.args.command.now))) c.self.view_is
    (λ h f file left. inl
    (all_mean e.checkpoint.state (paged e.checkpoint e.memory) e.memory.contents e.journal (g.D.Disk.now e.disk)
    (c.self.invariant.1 h f) file left))

pub returns-in-Ok-false-clause-means : goal.returns-in-Ok-false-clause-means
returns-in-Ok-false-clause-means g c =
    let e = c.self.inside in
    let un : is_accepted e.memory.contents c.args.command.now
    ≡ false = accepts e.memory.contents c.args.command.now false c.judge.result c.judge.ensures
    (c.in-Ok-false.is ∙ ap (λ b. Ok b) c.in-Ok-false.field-0-test) in
    let same : c.step.new.self ≡ e.memory = c.step.ensures.unaccepted un in
    λ h f. all_mean e.checkpoint.state (paged e.checkpoint c.step.new.self) c.step.new.self.contents e.journal
    (g.D.Disk.now e.disk)
    (subst (λ (m : MemoryState). IsKept e.checkpoint.state (paged e.checkpoint m) m.contents e.journal
    (g.D.Disk.now e.disk)) (sym same) (c.self.invariant.1 h f))

pub returns-in-Err-clause-doubt : goal.returns-in-Err-clause-doubt
returns-in-Err-clause-doubt g c =
    let e = c.self.inside in
    subst (λ (s : EngineState g.row.D.Denot). g.D.Disk.honest s.disk → s.failed ≡ false
    → LeavesNow (g.D.Disk.now s.disk) (MeansEither s (with_command s c.args.command.now))) c.self.view_is
    (λ h f file left. inl
    (all_mean e.checkpoint.state (paged e.checkpoint e.memory) e.memory.contents e.journal (g.D.Disk.now e.disk)
    (c.self.invariant.1 h f) file left))

pub returns-in-Err-clause-means : goal.returns-in-Err-clause-means
returns-in-Err-clause-means g c =
    let e = c.self.inside in
    subst (λ (s : EngineState g.row.D.Denot). g.D.Disk.honest s.disk → s.failed ≡ false
    → LeavesNow (g.D.Disk.now s.disk) (MeansState s)) c.self.view_is
    (λ h f. all_mean e.checkpoint.state (paged e.checkpoint e.memory) e.memory.contents e.journal
    (g.D.Disk.now e.disk) (c.self.invariant.1 h f))

pub returns-in-Ok-false-clause-answered : goal.returns-in-Ok-false-clause-answered
returns-in-Ok-false-clause-answered g c =
    let e = c.self.inside in
    let un : is_accepted e.memory.contents c.args.command.now
    ≡ false = accepts e.memory.contents c.args.command.now false c.judge.result c.judge.ensures
    (c.in-Ok-false.is ∙ ap (λ b. Ok b) c.in-Ok-false.field-0-test) in
    let same : c.step.new.self ≡ e.memory = c.step.ensures.unaccepted un in
    let failed : e.failed ≡ false = c.if-self.false in
    answered_unaccepted c.args.self.now _ c.args.command.now c.step.result
    (sym (ap (λ (s : EngineState g.row.D.Denot). s.failed) c.self.view_is) ∙ failed)
    (sym (ap (λ (s : EngineState g.row.D.Denot). is_accepted s.memory c.args.command.now) c.self.view_is) ∙ un)
    (c.step.ensures.answer
    ∙ ap (λ (s : EngineState g.row.D.Denot). (step s.memory c.args.command.now).answer) c.self.view_is)
    (ap (λ (m : MemoryState).
    (let s : EngineState g.row.D.Denot = record {
      disk = e.disk;
      header = e.checkpoint.state.header;
      step =
          e.checkpoint.state.step;
      pages = changed_in e.checkpoint;
      memory = m.contents;
      count = e.journal.count;
      room =
          e.journal.room;
      ahead = e.ahead.members.items;
      failed = e.failed;
    } in s)) same ∙ c.self.view_is)
