use Rattle.{im_disk.specs.Since.LeavesNow, im_listed.specs.Image.ImageState}
use Rattle.im_engine.specs.State.{IsFound, MeansState}
use Rattle.im_c.proofs.Boxes.{in_some}
use Rattle.im_c.proofs.image.lt_open.Goals as goal

pub returns-in-Ok-clause-found : goal.returns-in-Ok-clause-found
returns-in-Ok-clause-found c = λ is. in_some c.of_box.result.value c.in-Ok.found.value
    (λ (i : ImageState). LeavesNow i.engine.disk.now (IsFound i.engine)) c.of_box.ensures c.in-Ok.ensures.found

pub returns-in-Ok-clause-means : goal.returns-in-Ok-clause-means
returns-in-Ok-clause-means c = λ is. in_some c.of_box.result.value c.in-Ok.found.value
    (λ (i : ImageState). LeavesNow i.engine.disk.now (MeansState i.engine)) c.of_box.ensures c.in-Ok.ensures.means
