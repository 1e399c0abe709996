use Rattle.std.proofs.Common.{◌≡◌, ℕ, List, subst, rules}
use Rattle.{im_disk.specs.Since.LeavesNow, im_engine.specs.State.IsFound, im_engine.specs.State.MeansState}
use Rattle.im_listed.specs.Image.{ImageState, IsFaultOf}
use Rattle.im_c.proofs.Boxes.{in_box}
use Rattle.im_c.proofs.image.opened.Goals as goal

pub returns-in-Ok-open-clause-found : goal.returns-in-Ok-open-clause-found
returns-in-Ok-open-clause-found c = in_box c.boxed.result (λ b. b.value) c.in-Ok-open.image
    (λ (i : ImageState). LeavesNow i.engine.disk.now (IsFound i.engine)) c.boxed.ensures.same c.in-Ok-open.ensures.found

pub returns-in-Ok-open-clause-means : goal.returns-in-Ok-open-clause-means
returns-in-Ok-open-clause-means c = in_box c.boxed.result (λ b. b.value) c.in-Ok-open.image
    (λ (i : ImageState). LeavesNow i.engine.disk.now
    (MeansState i.engine)) c.boxed.ensures.same c.in-Ok-open.ensures.means

pub returns-in-Err-clause-fault : goal.returns-in-Err-clause-fault
returns-in-Err-clause-fault c =
    let copied : c.in-Ok.bytes.items ≡ c.args.bytes.now = search rules in
    subst (λ (file : List ℕ). IsFaultOf file c.in-Err.refusal) copied c.in-Err.ensures.fault
