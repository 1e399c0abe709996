use Rattle.im_laws.proofs.AcceptLemmas.{accepted-moves_base}

pub returns : Rattle.im_laws.proofs.windows.confirmation_moves_the_base.Goals.returns
returns c = accepted-moves_base
