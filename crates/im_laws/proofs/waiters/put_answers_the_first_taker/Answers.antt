use Rattle.im_laws.proofs.ResumeLemmas.{put-hands_on}
use Rattle.im_laws.proofs.waiters.put_answers_the_first_taker.Goals as goal

pub returns-clause-answered : goal.returns-clause-answered
returns-clause-answered c = λ m r a v first others agrees new there.
    (put-hands_on m r a v first others agrees new there.listed there.waits).answered

pub returns-clause-others : goal.returns-clause-others
returns-clause-others c = λ m r a v first rest agrees new there.
    (put-hands_on m r a v first rest agrees new there.listed there.waits).rest
