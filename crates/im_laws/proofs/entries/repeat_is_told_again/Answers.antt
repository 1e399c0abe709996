use Rattle.im_laws.proofs.EntryLemmas.{told-told_again}

pub returns : Rattle.im_laws.proofs.entries.repeat_is_told_again.Goals.returns
returns c = told-told_again
