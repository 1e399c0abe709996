use Rattle.im_laws.proofs.EntryLemmas.{read_back}

pub returns : Rattle.im_laws.proofs.entries.read_back.Goals.returns
returns c = read_back
