use Rattle.{im_disk.specs.Since.LeavesNow, im_engine.specs.State.MeansState, im_listed.specs.Image.ImageState}
use Rattle.im_c.proofs.Boxes.{in_some}

pub returns-in-Ok-clause-means : Rattle.im_c.proofs.image.lt_format.Goals.returns-in-Ok-clause-means
returns-in-Ok-clause-means c = λ is. in_some c.of_box.result.value c.in-Ok.image.value
    (λ (i : ImageState). LeavesNow i.engine.disk.now (MeansState i.engine)) c.of_box.ensures c.in-Ok.ensures.means
