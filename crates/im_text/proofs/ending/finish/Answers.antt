use Rattle.std.proofs.Common.{refl}
use Rattle.im_text.proofs.SaidLemmas.{last_unprinted, prints_all}
use Rattle.im_text.proofs.ending.finish.Goals as goal

pub returns-in-Ok-flush-clause-whole : goal.returns-in-Ok-flush-clause-whole
returns-in-Ok-flush-clause-whole g c = λ zero. (
  rw c.in-Ok.is refl,
  λ from said it. prints_all from _ _ said c.in-Ok-flush.ensures.works c.in-Ok-flush.ensures.pending
      (c.flush.ensures.on from said it),
)

-- no line of a refusal
pub returns-in-Ok-flush-clause-last : goal.returns-in-Ok-flush-clause-last
returns-in-Ok-flush-clause-last g c = λ from said it. last_unprinted from _ _ said (c.flush.ensures.on from said it)

pub returns-in-Err-flush-clause-last : goal.returns-in-Err-flush-clause-last
returns-in-Err-flush-clause-last g c = λ from said it. last_unprinted from _ _ said (c.flush.ensures.on from said it)
