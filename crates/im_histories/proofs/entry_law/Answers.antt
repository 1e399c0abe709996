use Rattle.im_histories.proofs.AllEntries.{every_entry_law}

pub returns : Rattle.im_histories.proofs.entry_law.Goals.returns
returns c = every_entry_law
