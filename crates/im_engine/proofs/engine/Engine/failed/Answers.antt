use Rattle.std.proofs.Common.{◌≡◌, false, subst}
use Rattle.{im_disk.specs.Since.LeavesNow, im_checkpoint.specs.Keeping.paged}
use Rattle.im_engine.{proofs.Keeping.all_mean, specs.State.EngineState, specs.State.MeansState}

pub returns-clause-means : Rattle.im_engine.proofs.engine.Engine.failed.Goals.returns-clause-means
returns-clause-means g c =
    let e = c.self.inside in
    subst (λ (s : EngineState g.row.D.Denot). g.D.Disk.honest s.disk → s.failed ≡ false
    → LeavesNow (g.D.Disk.now s.disk) (MeansState s)) c.self.view_is
    (λ h f. all_mean e.checkpoint.state (paged e.checkpoint e.memory) e.memory.contents e.journal
    (g.D.Disk.now e.disk) (c.self.invariant.1 h f))
