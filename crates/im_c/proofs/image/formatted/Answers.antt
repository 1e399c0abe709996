use Rattle.{im_disk.specs.Since.LeavesNow, im_engine.specs.State.MeansState, im_listed.specs.Image.ImageState}
use Rattle.im_c.proofs.Boxes.{in_box}

pub returns-in-Ok-clause-means : Rattle.im_c.proofs.image.formatted.Goals.returns-in-Ok-clause-means
returns-in-Ok-clause-means c = in_box c.boxed.result (λ b. b.value) c.in-Ok.image
    (λ (i : ImageState). LeavesNow i.engine.disk.now (MeansState i.engine)) c.boxed.ensures.same c.in-Ok.ensures.means
