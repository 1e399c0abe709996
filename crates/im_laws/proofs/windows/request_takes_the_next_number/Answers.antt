use Rattle.im_laws.proofs.AcceptLemmas.{accepted-takes_next}

pub returns : Rattle.im_laws.proofs.windows.request_takes_the_next_number.Goals.returns
returns c = accepted-takes_next
