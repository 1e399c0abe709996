use Rattle.im_journal.proofs.Later.{tail_later}

pub returns : Rattle.im_meaning.proofs.tails_may_begin_later.Goals.returns
returns c = λ r first k file t e boundary. tail_later r first k file t.commands t.room e boundary
