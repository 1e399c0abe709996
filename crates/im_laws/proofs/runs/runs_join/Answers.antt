use Rattle.im_laws.proofs.RunLemmas.{accepted-append, after-append, answers-append}
use Rattle.im_laws.proofs.runs.runs_join.Goals as goal

pub returns-clause-memory : goal.returns-clause-memory
returns-clause-memory c = after-append

pub returns-clause-answer : goal.returns-clause-answer
returns-clause-answer c = answers-append

pub returns-clause-accept : goal.returns-clause-accept
returns-clause-accept c = accepted-append
