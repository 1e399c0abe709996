use Rattle.im_journal.proofs.Sweeps.{behind_of}

pub returns : Rattle.im_meaning.proofs.slots_behind_the_room_are_stale.Goals.returns
returns c = λ r first file t e low k from to. behind_of r first file t.commands t.room e low k from to
