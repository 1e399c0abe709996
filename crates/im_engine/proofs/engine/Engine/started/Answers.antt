use Rattle.im_checkpoint.specs.Keeping.{paged}
use Rattle.im_engine.proofs.{Chaining.nothing_ahead, Keeping.all_mean}
use Rattle.im_engine.proofs.engine.Engine.started.Goals as goal

pub invariant_of-result : goal.invariant_of-result
invariant_of-result g c = (
  c.requires.fits,
  λ h f. c.requires.kept h,
  nothing_ahead c.args.memory.contents c.args.journal _ _ _ c.none.ensures.members
      c.none.ensures.put c.requires.none,
)

pub returns-clause-means : goal.returns-clause-means
returns-clause-means g c = λ h. all_mean c.args.checkpoint.state
    (paged c.args.checkpoint c.args.memory) c.args.memory.contents c.args.journal (g.D.Disk.now c.args.disk)
    (c.requires.kept h)
