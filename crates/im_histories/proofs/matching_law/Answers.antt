use Rattle.im_histories.proofs.Laws.{every_matching_law}

pub returns : Rattle.im_histories.proofs.matching_law.Goals.returns
returns c = every_matching_law
