use Rattle.std.proofs.Common.{◌≡◌, true, false, [], ◌∷◌, sym, ap, ◌∙◌, subst, inl}
use Rattle.{im_types.specs.Types.step, im_types.specs.Types.is_accepted, im_disk.proofs.SinceLemmas.leaves_start}
use Rattle.{im_disk.proofs.SinceLemmas.only_weaker, im_disk.specs.Since.CallsBy, im_disk.specs.Since.LeavesNow}
use Rattle.{im_disk.specs.Since.LeavesOnly, im_journal.specs.Holding.JournalState, im_journal.specs.Holding.MayAppend}
use Rattle.im_checkpoint.specs.{Keeping.Fits, Keeping.paged, Step.CheckpointState}
use Rattle.im_engine.proofs.{Chaining.nothing_ahead, Serving.calls_after, Serving.fits_longer, Serving.kept_with_it}
use Rattle.im_engine.proofs.Keeping.{accept_one, all_hold, all_mean, kept_prepared, may_put_means}
use Rattle.im_engine.specs.Chain.{IsAhead, laid_of}
use Rattle.im_engine.specs.State.{EngineState, MeansEither, MeansState, with_command}
use Rattle.im_engine.proofs.engine.Engine.accept.Goals as goal

pub returns-then-room-eq0-clause-leaves : goal.returns-then-room-eq0-clause-leaves
returns-then-room-eq0-clause-leaves g c =
    let e = c.self.inside in
    let alive : e.failed ≡ false = ap (λ (s : EngineState g.row.D.Denot). s.failed) c.self.view_is ∙ c.requires.alive in
    subst (λ (s : EngineState g.row.D.Denot). g.D.Disk.honest s.disk
    → LeavesOnly g.D.Disk.now g.D.Disk.past s.disk s.disk (MeansEither s (with_command s c.args.command.now)))
    c.self.view_is
    (λ h. record {
      within = leaves_start (g.D.Disk.now e.disk) (g.D.Disk.past e.disk) _;
      after = λ file left. inl
          (all_mean e.checkpoint.state (paged e.checkpoint e.memory) e.memory.contents e.journal
          (g.D.Disk.now e.disk) (c.self.invariant.1 h alive) file left);
    })

pub returns-then-room-eq0-clause-means : goal.returns-then-room-eq0-clause-means
returns-then-room-eq0-clause-means g c =
    let e = c.self.inside in
    subst (λ (s : EngineState g.row.D.Denot). g.D.Disk.honest s.disk → s.failed ≡ false
    → LeavesNow (g.D.Disk.now s.disk) (MeansState s)) c.self.view_is
    (λ h f. all_mean e.checkpoint.state (paged e.checkpoint e.memory) e.memory.contents e.journal
    (g.D.Disk.now e.disk) (c.self.invariant.1 h f))

pub append-requires : goal.append-requires
append-requires g c =
    let e = c.self.inside in
    let alive : e.failed ≡ false = ap (λ (s : EngineState g.row.D.Denot). s.failed) c.self.view_is ∙ c.requires.alive in
    record {
      holds = λ h. all_hold e.checkpoint.state (paged e.checkpoint e.memory) e.memory.contents e.journal
          (g.D.Disk.now e.disk) (c.self.invariant.1 h alive);
    }

pub returns-in-Err-clause-leaves : goal.returns-in-Err-clause-leaves
returns-in-Err-clause-leaves g c = λ h.
    let e = c.self.inside in
    let alive : e.failed ≡ false = ap (λ (s : EngineState g.row.D.Denot). s.failed) c.self.view_is ∙ c.requires.alive in
    let accepted : is_accepted e.memory.contents c.args.command.now
    ≡ true = ap (λ (s : EngineState g.row.D.Denot). is_accepted s.memory c.args.command.now) c.self.view_is
    ∙ c.requires.accepted in
    let means = may_put_means e.checkpoint.state (paged e.checkpoint e.memory) e.memory.contents e.journal
    (g.D.Disk.now e.disk) (c.self.invariant.1 (c.append.ensures.runs.honest h) alive) (c.args.command.now ∷ [])
    (step e.memory.contents c.args.command.now).contents
    (accept_one e.memory.contents c.args.command.now accepted) 1 in
    subst (λ (s : EngineState g.row.D.Denot). LeavesOnly g.D.Disk.now g.D.Disk.past s.disk c.append.new.disk
    (MeansEither s (with_command s c.args.command.now))) c.self.view_is
    (only_weaker g.D.Disk.now g.D.Disk.past e.disk c.append.new.disk
    (MayAppend e.journal (c.args.command.now ∷ []) (g.D.Disk.now e.disk)) _ (c.append.ensures.runs.leaves h) means)

pub invariant_of-self-2 : goal.invariant_of-self-2
invariant_of-self-2 g c =
    let e = c.self.inside in
    let accepted : is_accepted e.memory.contents c.args.command.now
    ≡ true = ap (λ (s : EngineState g.row.D.Denot). is_accepted s.memory c.args.command.now) c.self.view_is
    ∙ c.requires.accepted in
    let done = c.in_default.ensures in (
      subst (λ (s : CheckpointState). Fits s c.accept.new.self.contents c.append.new.self)
          (sym c.before-2.ensures.state)
          (fits_longer e.checkpoint.state e.memory.contents c.accept.new.self.contents e.journal c.append.new.self
          c.args.command.now c.self.invariant.0 c.accept.ensures.contents done.state),
      λ h f. kept_prepared e.checkpoint c.before-2.new.self e.memory c.accept.new.self c.args.command.now
          c.before-2.ensures
          (record { cells = c.self.invariant.0.cells; elements = c.self.invariant.0.elements }) c.accept.ensures.changes
          c.accept.new.self.contents c.append.new.self (g.D.Disk.now c.append.new.disk)
          (kept_with_it e.checkpoint.state (paged e.checkpoint e.memory) e.memory.contents e.journal
          (g.D.Disk.now e.disk) (c.self.invariant.1 (c.append.ensures.runs.honest h) f) c.args.command.now accepted
          c.accept.new.self.contents c.accept.ensures.contents c.append.new.self done.state
          (g.D.Disk.now c.append.new.disk) (done.added h).kept (done.added h).calm (done.added h).added
          (done.added h).holds),
      nothing_ahead c.accept.new.self.contents c.append.new.self _ _ _ c.forget.ensures.members
          c.forget.ensures.put (ap (λ j. j.ahead) done.state),
    )

pub returns-clause-leaves : goal.returns-clause-leaves
returns-clause-leaves g c = λ h.
    let e = c.self.inside in
    let alive : e.failed ≡ false = ap (λ (s : EngineState g.row.D.Denot). s.failed) c.self.view_is ∙ c.requires.alive in
    let accepted : is_accepted e.memory.contents c.args.command.now
    ≡ true = ap (λ (s : EngineState g.row.D.Denot). is_accepted s.memory c.args.command.now) c.self.view_is
    ∙ c.requires.accepted in
    let means = may_put_means e.checkpoint.state (paged e.checkpoint e.memory) e.memory.contents e.journal
    (g.D.Disk.now e.disk) (c.self.invariant.1 (c.append.ensures.runs.honest h) alive) (c.args.command.now ∷ [])
    (step e.memory.contents c.args.command.now).contents
    (accept_one e.memory.contents c.args.command.now accepted) 1 in
    subst (λ (s : EngineState g.row.D.Denot). LeavesOnly g.D.Disk.now g.D.Disk.past s.disk c.append.new.disk
    (MeansEither s (with_command s c.args.command.now))) c.self.view_is
    (only_weaker g.D.Disk.now g.D.Disk.past e.disk c.append.new.disk
    (MayAppend e.journal (c.args.command.now ∷ []) (g.D.Disk.now e.disk)) _ (c.append.ensures.runs.leaves h) means)

pub returns-clause-calls : goal.returns-clause-calls
returns-clause-calls g c = λ h.
    subst (λ (s : EngineState g.row.D.Denot). CallsBy g.D.Disk.past s.disk c.append.new.disk 4 c.accept.result)
    c.self.view_is
    (calls_after g.D.Disk.past c.self.inside.disk c.append.new.disk 4 c.append.result _ c.accept.result c.in_default.is
    (c.append.ensures.runs.calls h))

pub returns-clause-means : goal.returns-clause-means
returns-clause-means g c = λ h f.
    let e = c.self.inside in
    let accepted : is_accepted e.memory.contents c.args.command.now
    ≡ true = ap (λ (s : EngineState g.row.D.Denot). is_accepted s.memory c.args.command.now) c.self.view_is
    ∙ c.requires.accepted in
    let done = c.in_default.ensures in
    all_mean e.checkpoint.state (paged e.checkpoint e.memory) c.accept.new.self.contents c.append.new.self
    (g.D.Disk.now c.append.new.disk)
    (kept_with_it e.checkpoint.state (paged e.checkpoint e.memory) e.memory.contents e.journal (g.D.Disk.now e.disk)
    (c.self.invariant.1 (c.append.ensures.runs.honest h) f) c.args.command.now accepted
    c.accept.new.self.contents c.accept.ensures.contents c.append.new.self done.state (g.D.Disk.now c.append.new.disk)
    (done.added h).kept (done.added h).calm (done.added h).added (done.added h).holds)

pub accept-requires : goal.accept-requires
accept-requires g c = record {
  accepted = ap (λ (s : EngineState g.row.D.Denot). is_accepted s.memory c.args.command.now) c.self.view_is
      ∙ c.requires.accepted;
}

pub invariant_of-self : goal.invariant_of-self
invariant_of-self g c =
    let e = c.self.inside in
    let same = c.in-Err.ensures.state in (
      subst (λ (j : JournalState). Fits e.checkpoint.state e.memory.contents j) (sym same) c.self.invariant.0,
      λ h f. absurd (cc),
      subst (λ (j : JournalState). IsAhead e.memory.contents j e.ahead.members.items
          (laid_of e.ahead.whole e.ahead.members.items e.ahead.commands.items) e.ahead.taken.items)
          (sym same) c.self.invariant.2,
    )
