use Rattle.std.proofs.Common.{◌≡◌, true, sym, refl, ap, ◌∙◌, subst}
use Rattle.{im_types.specs.Types.sizes_of, im_journal.specs.Holding.JournalState, im_image.specs.Fresh.new_header}
use Rattle.{im_image.specs.Fresh.new_image, im_checkpoint.specs.Step.CheckpointState}
use Rattle.im_disk.{proofs.SinceLemmas.left_settled, specs.Since.LeavesNow}
use Rattle.im_engine.proofs.Making.{first_pages, fresh_fits, fresh_kept}
use Rattle.im_engine.specs.State.{EngineState, IsNewImage}
use Rattle.im_engine.proofs.engine.Engine.format.Goals as goal

pub started-requires-clause-fits : goal.started-requires-clause-fits
started-requires-clause-fits g c =
    fresh_fits c.args.limits c.args.limits.in_range c.in-Ok.checkpoint c.in-Ok.ensures.idle c.in-Ok.memory
    c.in-Ok.ensures.empty.0 c.in-Ok.ensures.empty.1 c.fresh.result c.fresh.ensures.state

pub started-requires-clause-kept : goal.started-requires-clause-kept
started-requires-clause-kept g c = λ h.
    fresh_kept c.args.limits c.args.limits.in_range c.in-Ok.checkpoint c.in-Ok.ensures.idle c.in-Ok.memory
    c.in-Ok.ensures.empty.0 c.in-Ok.ensures.empty.1 c.fresh.result c.fresh.ensures.state c.fresh.ensures.holds
    (g.D.Disk.now c.lay_down.new.disk) (c.in-Ok.ensures.written h) (c.in-Ok.ensures.calm h)

pub returns-in-Ok-clause-image : goal.returns-in-Ok-clause-image
returns-in-Ok-clause-image g c =
    subst (λ (s : EngineState g.row.D.Denot). g.D.Disk.honest s.disk
    → LeavesNow (g.D.Disk.now s.disk) (λ file. file ≡ new_image 0xA5 (sizes_of c.args.limits)))
    (sym c.started.ensures.state)
    (λ h file left. left_settled (g.D.Disk.now c.lay_down.new.disk) file (c.in-Ok.ensures.calm h) left
    ∙ c.in-Ok.ensures.written h)

pub returns-in-Ok-clause-empty : goal.returns-in-Ok-clause-empty
returns-in-Ok-clause-empty g c =
    let idle = c.in-Ok.ensures.idle in
    let fresh = c.fresh.ensures.state in
    subst (λ (s : EngineState g.row.D.Denot). IsNewImage c.args.limits s) (sym c.started.ensures.state) (
      c.in-Ok.ensures.empty.0,
      ap (λ (j : JournalState). j.count) fresh,
      ap (λ (j : JournalState). j.room) fresh,
      ap (λ (s : CheckpointState). s.header) idle.state,
      ap (λ (s : CheckpointState). s.step) idle.state,
      first_pages c.in-Ok.checkpoint (new_header (sizes_of c.args.limits)) true idle,
      refl,
    )
