use Rattle.std.proofs.Common.{◌≡◌, sym, refl, ap, ◌∙◌, subst, arith}
use Rattle.im_pages.specs.PageSets.{pages_from}
use Rattle.im_checkpoint.proofs.Sweeping.{kept_still, none_more, none_under_way}
use Rattle.im_checkpoint.specs.{declared.checkpoint.Phase.Phase, Step.NoCheckpoint, Step.PagedCheckpoint, Step.Step}
use Rattle.im_checkpoint.specs.{Step.step_by_phase, Turns.calls_to_sweep, Turns.MakesSweep, Turns.swept_at_once}
use Rattle.im_checkpoint.proofs.checkpoint.Checkpoint.sweep.Goals as goal

pub returns-in-NoCheckpoint-clause-keeps : goal.returns-in-NoCheckpoint-clause-keeps
returns-in-NoCheckpoint-clause-keeps g c = λ h x m kept.
    let e = c.self.inside in
    let is : c.args.self.now.state.step
    ≡ NoCheckpoint = ap (λ (s : PagedCheckpoint). s.state.step) (sym c.self.view_is)
    ∙ ap (λ (p : Phase). step_by_phase p e.count (pages_from e.next e.left)) c.in-NoCheckpoint.is in
    c.sweep_more.ensures.keeps h c.args.self.now.state x m is kept

pub returns-in-NoCheckpoint-clause-runs : goal.returns-in-NoCheckpoint-clause-runs
returns-in-NoCheckpoint-clause-runs g c =
    let e = c.self.inside in
    let is : c.args.self.now.state.step
    ≡ NoCheckpoint = ap (λ (s : PagedCheckpoint). s.state.step) (sym c.self.view_is)
    ∙ ap (λ (p : Phase). step_by_phase p e.count (pages_from e.next e.left)) c.in-NoCheckpoint.is in
    subst (λ (s : Step). MakesSweep g.D.Disk c.args.disk.now c.sweep_more.new.disk
    (calls_to_sweep s c.args.journal.now c.args.most) c.sweep_more.result) (sym is) c.sweep_more.ensures.runs

pub returns-in_default-clause-swept : goal.returns-in_default-clause-swept
returns-in_default-clause-swept g c =
    let e = c.self.inside in (
      none_under_way (λ s. swept_at_once s c.args.journal.now c.args.most) (λ count left. refl) (λ count. refl)
          (λ count. refl) e.step e.count (pages_from e.next e.left) c.in_default.not-NoCheckpoint
          ∙ ap (λ (s : PagedCheckpoint). swept_at_once s.state.step c.args.journal.now c.args.most) c.self.view_is,
      none_more c.args.journal.now,
    )

pub returns-in_default-clause-keeps : goal.returns-in_default-clause-keeps
returns-in_default-clause-keeps g c = λ h x m kept.
    kept_still g.D.Disk.now g.D.Disk.past c.args.disk.now c.args.self.now.state x m c.args.journal.now kept

pub returns-in_default-clause-runs : goal.returns-in_default-clause-runs
returns-in_default-clause-runs g c =
    let e = c.self.inside in
    let none = none_under_way (λ s. calls_to_sweep s c.args.journal.now c.args.most) (λ count left. refl)
    (λ count. refl) (λ count. refl) e.step e.count (pages_from e.next e.left) c.in_default.not-NoCheckpoint
    ∙ ap (λ (s : PagedCheckpoint). calls_to_sweep s.state.step c.args.journal.now c.args.most) c.self.view_is in
    record { honest = λ h. h; kept = λ h. omega (arith, none); faults = refl }
