use Rattle.im_laws.proofs.ResumeLemmas.{store-answers}

pub returns : Rattle.im_laws.proofs.waiters.store_answers_every_reader.Goals.returns
returns c = store-answers
