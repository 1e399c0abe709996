use Rattle.im_laws.proofs.TraceLemmas.{end_of-append, IsLegal-append, IsLegal-split}
use Rattle.im_laws.proofs.traces.traces_join.Goals as goal

pub returns-clause-end : goal.returns-clause-end
returns-clause-end c = end_of-append

pub returns-clause-legal : goal.returns-clause-legal
returns-clause-legal c = λ m earlier later.
    (IsLegal-split m earlier later, λ both. IsLegal-append m earlier later both.0 both.1)
