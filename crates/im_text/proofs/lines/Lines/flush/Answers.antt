use Rattle.std.proofs.Common.{refl}
use Rattle.im_text.proofs.SaidLemmas.{prints_on}

pub returns-clause-on : Rattle.im_text.proofs.lines.Lines.flush.Goals.returns-clause-on
returns-clause-on g c = prints_on _ _ _ _ refl refl c.flush.ensures.on
