use Rattle.im_laws.proofs.ForgetLemmas.{accepted_once}

pub returns : Rattle.im_laws.proofs.entries.number_acts_once.Goals.returns
returns c = accepted_once
