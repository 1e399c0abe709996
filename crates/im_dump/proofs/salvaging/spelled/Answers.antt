use Rattle.im_image.specs.Headers.{seen}
use Rattle.im_dump.proofs.SalvageLemmas.{spelled_is}

pub returns-clause-found : Rattle.im_dump.proofs.salvaging.spelled.Goals.returns-clause-found
returns-clause-found c =
    spelled_is seen c.args.number c.args.place.now c.read.result c.read.ensures.found c.read.ensures.only
