use Rattle.im_laws.proofs.ResumeLemmas.{step-defers}

pub returns : Rattle.im_laws.proofs.waiters.later_request_waits_behind.Goals.returns
returns c = step-defers
