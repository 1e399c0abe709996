use Rattle.im_turning.proofs.TurningLemmas.{at_rest}

pub returns : Rattle.im_turning.proofs.idle_turn_is_at_rest.Goals.returns
returns c = at_rest
