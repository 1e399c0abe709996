use Rattle.std.proofs.Common.{◌≡◌, ℕ, ◌+◌, false, OnOk, Ok, Err, Result, sym, ap, ◌∙◌, subst, inl}
use Rattle.{im_types.specs.Types.Refusal, im_journal.specs.Holding.JournalState}
use Rattle.im_disk.specs.Since.{CallsBy, Leaves, LeavesNow}
use Rattle.im_checkpoint.{proofs.Fitting.room_fits, specs.Turns.calls_to_sweep, specs.Turns.swept_at_once}
use Rattle.im_checkpoint.specs.{Keeping.Fits, Keeping.IsKept, Keeping.paged, Step.changed_in}
use Rattle.im_engine.proofs.Chaining.{calls_alone, more_room, number_here, swept_alone}
use Rattle.im_engine.proofs.Keeping.{all_hold, all_mean}
use Rattle.im_engine.specs.{Answered.SweepAnswered, Chain.IsAhead, Chain.laid_of}
use Rattle.im_engine.specs.State.{engine_of, EngineState, journal_in, journal_of, MeansState}
use Rattle.im_engine.proofs.engine.Engine.sweep.Goals as goal

pub sweep-requires : goal.sweep-requires
sweep-requires g c = let e = c.self.inside in record {
  holds = λ h. all_hold e.checkpoint.state (paged e.checkpoint e.memory) e.memory.contents e.journal
      (g.D.Disk.now e.disk) (c.self.invariant.1 h c.if-self.false);
}

pub invariant_of-self : goal.invariant_of-self
invariant_of-self g c = let e = c.self.inside in (
  subst (λ (j : JournalState). Fits e.checkpoint.state e.memory.contents j) (sym c.in-Ok.ensures.swept.1)
      (room_fits e.checkpoint.state e.memory.contents e.journal _ c.self.invariant.0),
  λ h f. subst (λ (r : Result ℕ Refusal). OnOk r
      (IsKept e.checkpoint.state (paged e.checkpoint e.memory) e.memory.contents c.sweep.new.journal
      (g.D.Disk.now c.sweep.new.disk))) c.in-Ok.is
      (c.sweep.ensures.keeps h (paged e.checkpoint e.memory) e.memory.contents
      (c.self.invariant.1 (c.sweep.ensures.runs.honest h) c.if-self.false)).kept,
  more_room e.memory.contents e.journal c.sweep.new.journal _ _ _ _ c.in-Ok.ensures.swept.1 c.self.invariant.2,
)

pub returns-in-Ok-clause-leaves : goal.returns-in-Ok-clause-leaves
returns-in-Ok-clause-leaves g c = λ h f. let e = c.self.inside in
    subst (λ (s : EngineState g.row.D.Denot). Leaves (g.D.Disk.now s.disk) (g.D.Disk.now c.sweep.new.disk)
    (g.D.Disk.past s.disk) (g.D.Disk.past c.sweep.new.disk) (MeansState s)) c.self.view_is
    (c.sweep.ensures.keeps h (paged e.checkpoint e.memory) e.memory.contents
    (c.self.invariant.1 (c.sweep.ensures.runs.honest h) c.if-self.false)).leaves.within

pub returns-in-Ok-clause-now : goal.returns-in-Ok-clause-now
returns-in-Ok-clause-now g c = λ h f. let e = c.self.inside in
    subst (λ (s : EngineState g.row.D.Denot). LeavesNow (g.D.Disk.now c.sweep.new.disk) (MeansState s)) c.self.view_is
    (c.sweep.ensures.keeps h (paged e.checkpoint e.memory) e.memory.contents
    (c.self.invariant.1 (c.sweep.ensures.runs.honest h) c.if-self.false)).leaves.after

pub returns-in-Ok-clause-means : goal.returns-in-Ok-clause-means
returns-in-Ok-clause-means g c = λ h f. let e = c.self.inside in all_mean e.checkpoint.state
    (paged e.checkpoint e.memory) e.memory.contents c.sweep.new.journal (g.D.Disk.now c.sweep.new.disk)
    (subst (λ (r : Result ℕ Refusal). OnOk r
    (IsKept e.checkpoint.state (paged e.checkpoint e.memory) e.memory.contents c.sweep.new.journal
    (g.D.Disk.now c.sweep.new.disk))) c.in-Ok.is
    (c.sweep.ensures.keeps h (paged e.checkpoint e.memory) e.memory.contents
    (c.self.invariant.1 (c.sweep.ensures.runs.honest h) c.if-self.false)).kept)

pub returns-in-Err-clause-leaves : goal.returns-in-Err-clause-leaves
returns-in-Err-clause-leaves g c = λ h f. let e = c.self.inside in
    subst (λ (s : EngineState g.row.D.Denot). Leaves (g.D.Disk.now s.disk) (g.D.Disk.now c.sweep.new.disk)
    (g.D.Disk.past s.disk) (g.D.Disk.past c.sweep.new.disk) (MeansState s)) c.self.view_is
    (c.sweep.ensures.keeps h (paged e.checkpoint e.memory) e.memory.contents
    (c.self.invariant.1 (c.sweep.ensures.runs.honest h) c.if-self.false)).leaves.within

pub returns-in-Err-clause-now : goal.returns-in-Err-clause-now
returns-in-Err-clause-now g c = λ h f. let e = c.self.inside in
    subst (λ (s : EngineState g.row.D.Denot). LeavesNow (g.D.Disk.now c.sweep.new.disk) (MeansState s)) c.self.view_is
    (c.sweep.ensures.keeps h (paged e.checkpoint e.memory) e.memory.contents
    (c.self.invariant.1 (c.sweep.ensures.runs.honest h) c.if-self.false)).leaves.after

pub returns-in-Ok-clause-answered : goal.returns-in-Ok-clause-answered
returns-in-Ok-clause-answered g c =
    let e = c.self.inside in
    let most = c.args.most in
    let works : e.failed ≡ false = c.if-self.false in
    let many : c.in-Ok.swept ≡ swept_at_once e.checkpoint.state.step
    (journal_of e.checkpoint.state.header e.journal.count e.journal.room) most = c.in-Ok.ensures.swept.0
    ∙ number_here (λ (k : JournalState). swept_at_once e.checkpoint.state.step k most) e.checkpoint.state
    e.memory.contents e.journal (swept_alone e.checkpoint.state.step e.journal most) c.self.invariant.0 in
    let journal = c.in-Ok.ensures.swept.1 in
    subst (λ (s : EngineState g.row.D.Denot). SweepAnswered s most (Ok c.in-Ok.swept) (engine_of c.sweep.new.disk
    e.checkpoint e.memory c.sweep.new.journal e.ahead.members.items e.failed)) c.self.view_is (record {
      dead = λ dead. absurd (cc);
      alive = λ f. inl (
        ap (λ (n : ℕ). Ok n) many,
        (λ i. record {
          disk = c.sweep.new.disk;
          header = e.checkpoint.state.header;
          step = e.checkpoint.state.step;
          pages = changed_in e.checkpoint;
          memory = e.memory.contents;
          count = (journal i).count;
          room = ((ap (λ (j : JournalState). j.room) journal) ∙ (ap (λ (n : ℕ). e.journal.room + n) many)) i;
          ahead = e.ahead.members.items;
          failed = e.failed;
        }),
      );
    })

pub returns-in-Ok-clause-calls : goal.returns-in-Ok-clause-calls
returns-in-Ok-clause-calls g c = λ h.
    let e = c.self.inside in
    let most = c.args.most in
    subst (λ (s : EngineState g.row.D.Denot). CallsBy {E = Refusal} g.D.Disk.past s.disk c.sweep.new.disk
    (calls_to_sweep s.step (journal_in s) most) (Ok c.in-Ok.swept)) c.self.view_is
    (subst (λ (n : ℕ). CallsBy {E = Refusal} g.D.Disk.past e.disk c.sweep.new.disk n (Ok c.in-Ok.swept))
    (number_here (λ (k : JournalState). calls_to_sweep e.checkpoint.state.step k most) e.checkpoint.state
    e.memory.contents e.journal (calls_alone e.checkpoint.state.step e.journal most) c.self.invariant.0)
    (subst (λ (r : Result ℕ Refusal). CallsBy {E = Refusal} g.D.Disk.past e.disk c.sweep.new.disk
    (calls_to_sweep e.checkpoint.state.step e.journal most) r) c.in-Ok.is (c.sweep.ensures.runs.kept h)))

pub returns-in-Err-clause-calls : goal.returns-in-Err-clause-calls
returns-in-Err-clause-calls g c = λ h.
    let e = c.self.inside in
    let most = c.args.most in
    subst (λ (s : EngineState g.row.D.Denot). CallsBy {T = ℕ} g.D.Disk.past s.disk c.sweep.new.disk
    (calls_to_sweep s.step (journal_in s) most) (Err c.in-Err.refusal)) c.self.view_is
    (subst (λ (n : ℕ). CallsBy {T = ℕ} g.D.Disk.past e.disk c.sweep.new.disk n (Err c.in-Err.refusal))
    (number_here (λ (k : JournalState). calls_to_sweep e.checkpoint.state.step k most) e.checkpoint.state
    e.memory.contents e.journal (calls_alone e.checkpoint.state.step e.journal most) c.self.invariant.0)
    (subst (λ (r : Result ℕ Refusal). CallsBy {T = ℕ} g.D.Disk.past e.disk c.sweep.new.disk
    (calls_to_sweep e.checkpoint.state.step e.journal most) r) c.in-Err.is (c.sweep.ensures.runs.kept h)))

pub invariant_of-self-in-Err : goal.invariant_of-self-in-Err
invariant_of-self-in-Err g c =
    let e = c.self.inside in
    let same = c.in-Err.ensures.same in (
      subst (λ (j : JournalState). Fits e.checkpoint.state e.memory.contents j) (sym same) c.self.invariant.0,
      λ h f. absurd (cc),
      subst (λ (j : JournalState). IsAhead e.memory.contents j e.ahead.members.items
          (laid_of e.ahead.whole e.ahead.members.items e.ahead.commands.items) e.ahead.taken.items)
          (sym same) c.self.invariant.2,
    )
