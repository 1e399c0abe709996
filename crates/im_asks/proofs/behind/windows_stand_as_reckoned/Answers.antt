use Rattle.im_asks.proofs.BehindLemmas.{stands}

pub returns : Rattle.im_asks.proofs.behind.windows_stand_as_reckoned.Goals.returns
returns c = record { range = stands }
