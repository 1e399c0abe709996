use Rattle.im_listed.proofs.ImageLemmas.{begun_with, own_fault, same_bytes}
use Rattle.im_listed.proofs.image.Image.open.Goals as goal

pub returns-in-Ok-open-clause-kept : goal.returns-in-Ok-open-clause-kept
returns-in-Ok-open-clause-kept c =
    same_bytes c.args.bytes.items c.in-Ok.disk c.in-Ok-open.engine.disk c.in-Ok.ensures.now
    (c.in-Ok-open.ensures.leaves tt)

pub returns-in-Ok-open-clause-carried : goal.returns-in-Ok-open-clause-carried
returns-in-Ok-open-clause-carried c =
    begun_with c.args.bytes.items c.in-Ok-open.engine.disk c.in-Ok.disk c.in-Ok.ensures.begun
    c.in-Ok-open.ensures.faults c.known.ensures.account

pub returns-in-Ok-open-clause-found : goal.returns-in-Ok-open-clause-found
returns-in-Ok-open-clause-found c = c.in-Ok-open.ensures.found tt

pub returns-in-Ok-open-clause-means : goal.returns-in-Ok-open-clause-means
returns-in-Ok-open-clause-means c = c.in-Ok-open.ensures.means tt

pub returns-clause-fault : goal.returns-clause-fault
returns-clause-fault c =
    own_fault c.args.bytes.items c.in-Err.refusal c.in-Ok.disk c.in-Err.field-0-1 c.in-Ok.ensures.now
    (c.in-Err.ensures.leaves tt) c.in-Err.ensures.fault
