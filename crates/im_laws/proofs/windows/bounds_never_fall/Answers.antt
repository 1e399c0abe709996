use Rattle.im_laws.proofs.ForgetLemmas.{after-no_less}

pub returns : Rattle.im_laws.proofs.windows.bounds_never_fall.Goals.returns
returns c = after-no_less
