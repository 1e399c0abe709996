use Rattle.std.proofs.Common.{ap, ◌∙◌, subst}
use Rattle.im_checkpoint.specs.Keeping.{paged}
use Rattle.im_engine.{proofs.Keeping.all_mean, specs.State.EngineState, specs.State.MeansState}

pub returns-clause-means : Rattle.im_engine.proofs.engine.Engine.close.Goals.returns-clause-means
returns-clause-means g c = λ h f file left.
    let e = c.self.inside in
    subst (λ (s : EngineState g.row.D.Denot). MeansState s file) c.self.view_is
    (all_mean e.checkpoint.state (paged e.checkpoint e.memory) e.memory.contents e.journal (g.D.Disk.now e.disk)
    (c.self.invariant.1 h (ap (λ (s : EngineState g.row.D.Denot). s.failed) c.self.view_is ∙ f)) file left)
