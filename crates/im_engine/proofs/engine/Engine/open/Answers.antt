use Rattle.std.proofs.Common.{◌≡◌, false, [], Ok, sym, refl, ap, subst}
use Rattle.im_types.specs.Types.{layout_in_use, header_of, Reads}
use Rattle.{im_disk.specs.Since.LeavesNow, im_image.specs.Headers.seen}
use Rattle.im_checkpoint.specs.{Keeping.IsKept, Keeping.paged, Step.CheckpointState, Step.NoCheckpoint}
use Rattle.im_engine.proofs.Making.{first_pages}
use Rattle.im_engine.specs.State.{EngineState, IsFound, pages_at_first}
use Rattle.im_engine.proofs.engine.Engine.open.Goals as goal

pub returns-in-Ok-idle-clause-found : goal.returns-in-Ok-idle-clause-found
returns-in-Ok-idle-clause-found g c =
    let i = c.in-Ok.image in
    subst (λ (s : EngineState g.row.D.Denot). g.D.Disk.honest s.disk → LeavesNow (g.D.Disk.now s.disk) (IsFound s)) (sym
    c.started.ensures.state)
    (λ h. subst (λ (x : CheckpointState). LeavesNow (g.D.Disk.now c.read_synced.new.disk)
    (λ file. (x.header ≡ header_of file)
    × Reads layout_in_use file
    (Ok (record { contents = i.memory.contents; count = i.journal.count; room = i.journal.room }))))
    (sym c.in-Ok-idle.ensures.idle.state) (c.in-Ok.ensures.found h))

pub started-requires-clause-kept : goal.started-requires-clause-kept
started-requires-clause-kept g c = λ h.
    let i = c.in-Ok.image in
    let idle = c.in-Ok-idle.ensures.idle in
    subst (λ (s : CheckpointState). IsKept s (paged c.in-Ok-idle.checkpoint i.memory) i.memory.contents i.journal
    (g.D.Disk.now c.read_synced.new.disk)) (sym idle.state)
    (c.in-Ok.ensures.kept h (paged c.in-Ok-idle.checkpoint i.memory) idle.recent)

pub returns-in-Ok-idle-clause-idle : goal.returns-in-Ok-idle-clause-idle
returns-in-Ok-idle-clause-idle g c =
    let idle = c.in-Ok-idle.ensures.idle in
    subst (λ (s : EngineState g.row.D.Denot). (s.step ≡ NoCheckpoint) × (s.pages ≡ pages_at_first s.header false)
    × (s.ahead ≡ []))
    (sym c.started.ensures.state) (
      ap (λ (s : CheckpointState). s.step) idle.state,
      first_pages c.in-Ok-idle.checkpoint (seen c.in-Ok.image.header) false idle,
      refl,
    )
