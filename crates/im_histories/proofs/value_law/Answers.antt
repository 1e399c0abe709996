use Rattle.im_histories.proofs.Laws.{every_value_law}

pub returns : Rattle.im_histories.proofs.value_law.Goals.returns
returns c = every_value_law
