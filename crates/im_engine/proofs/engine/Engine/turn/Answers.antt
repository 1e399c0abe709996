use Rattle.std.proofs.Common.{◌≡◌, false, OnOk, Ok, Result, sym, refl, subst, inl}
use Rattle.{im_types.specs.Types.Refusal, im_journal.specs.Holding.JournalState}
use Rattle.im_disk.specs.Since.{Leaves, LeavesNow}
use Rattle.im_checkpoint.specs.{declared.TurnDone.TurnDone, Step.PagedCheckpoint}
use Rattle.im_checkpoint.specs.Keeping.{Fits, IsKept, paged}
use Rattle.im_engine.proofs.{Chaining.ahead_kept, Chaining.turned_here, Keeping.all_mean}
use Rattle.im_engine.specs.{Answered.TurnAnswered, Chain.IsAhead, Chain.laid_of}
use Rattle.im_engine.specs.State.{engine_of, EngineState, MeansState}
use Rattle.im_engine.proofs.engine.Engine.turn.Goals as goal

pub turn-requires-clause-kept : goal.turn-requires-clause-kept
turn-requires-clause-kept g c = λ h. c.self.invariant.1 h c.if-self.false

pub invariant_of-self : goal.invariant_of-self
invariant_of-self g c = (
  c.in-Ok.ensures.turned.fits,
  λ h f. subst (λ (r : Result TurnDone Refusal). OnOk r
      (IsKept c.turn.new.self.state
      (paged c.turn.new.self c.self.inside.memory) c.self.inside.memory.contents c.turn.new.journal
      (g.D.Disk.now c.turn.new.disk))) c.in-Ok.is (c.turn.ensures.keeps h).kept,
  ahead_kept c.self.inside.memory.contents c.self.inside.journal c.turn.new.journal _ _ _ c.in-Ok.ensures.turned.count
      c.in-Ok.ensures.turned.ahead.1 c.in-Ok.ensures.turned.ahead.0 c.self.invariant.2,
)

pub returns-in-Ok-clause-leaves : goal.returns-in-Ok-clause-leaves
returns-in-Ok-clause-leaves g c = λ h f.
    subst (λ (s : EngineState g.row.D.Denot). Leaves (g.D.Disk.now s.disk) (g.D.Disk.now c.turn.new.disk)
    (g.D.Disk.past s.disk) (g.D.Disk.past c.turn.new.disk) (MeansState s)) c.self.view_is
    (c.turn.ensures.keeps h).leaves.within

pub returns-in-Ok-clause-now : goal.returns-in-Ok-clause-now
returns-in-Ok-clause-now g c = λ h f.
    subst (λ (s : EngineState g.row.D.Denot). LeavesNow (g.D.Disk.now c.turn.new.disk) (MeansState s)) c.self.view_is
    (c.turn.ensures.keeps h).leaves.after

pub returns-in-Ok-clause-means : goal.returns-in-Ok-clause-means
returns-in-Ok-clause-means g c = λ h f. all_mean c.turn.new.self.state
    (paged c.turn.new.self c.self.inside.memory) c.self.inside.memory.contents c.turn.new.journal
    (g.D.Disk.now c.turn.new.disk)
    (subst (λ (r : Result TurnDone Refusal). OnOk r
    (IsKept c.turn.new.self.state
    (paged c.turn.new.self c.self.inside.memory) c.self.inside.memory.contents c.turn.new.journal
    (g.D.Disk.now c.turn.new.disk))) c.in-Ok.is (c.turn.ensures.keeps h).kept)

pub returns-in-Err-clause-leaves : goal.returns-in-Err-clause-leaves
returns-in-Err-clause-leaves g c = λ h f.
    subst (λ (s : EngineState g.row.D.Denot). Leaves (g.D.Disk.now s.disk) (g.D.Disk.now c.turn.new.disk)
    (g.D.Disk.past s.disk) (g.D.Disk.past c.turn.new.disk) (MeansState s)) c.self.view_is
    (c.turn.ensures.keeps h).leaves.within

pub returns-in-Err-clause-now : goal.returns-in-Err-clause-now
returns-in-Err-clause-now g c = λ h f.
    subst (λ (s : EngineState g.row.D.Denot). LeavesNow (g.D.Disk.now c.turn.new.disk) (MeansState s)) c.self.view_is
    (c.turn.ensures.keeps h).leaves.after

pub returns-in-Ok-clause-answered : goal.returns-in-Ok-clause-answered
returns-in-Ok-clause-answered g c =
    let e = c.self.inside in
    let t = c.in-Ok.ensures.turned in
    let works : e.failed ≡ false = c.if-self.false in
    subst (λ (s : EngineState g.row.D.Denot). TurnAnswered s (Ok c.in-Ok.done) (engine_of c.turn.new.disk
    c.turn.new.self e.memory c.turn.new.journal e.ahead.members.items e.failed)) c.self.view_is (record {
      dead = λ dead. absurd (cc);
      alive = λ f. inl (
        c.in-Ok.done,
        refl,
        record {
          memory = refl;
          count = t.count;
          ahead = refl;
          alive = works;
          turned = turned_here e.checkpoint.state c.turn.new.self.state e.memory.contents e.memory.contents e.journal
              c.turn.new.journal c.in-Ok.done c.self.invariant.0 t.fits t.turned;
          pages = t.moved;
        },
      );
    })

pub invariant_of-self-in-Err : goal.invariant_of-self-in-Err
invariant_of-self-in-Err g c =
    let e = c.self.inside in
    let same = c.in-Err.ensures.same in (
      subst (λ (j : JournalState). Fits c.turn.new.self.state e.memory.contents j) (sym same.1)
          (subst (λ (k : PagedCheckpoint). Fits k.state e.memory.contents e.journal) (sym same.0) c.self.invariant.0),
      λ h f. absurd (cc),
      subst (λ (j : JournalState). IsAhead e.memory.contents j e.ahead.members.items
          (laid_of e.ahead.whole e.ahead.members.items e.ahead.commands.items) e.ahead.taken.items)
          (sym same.1) c.self.invariant.2,
    )
