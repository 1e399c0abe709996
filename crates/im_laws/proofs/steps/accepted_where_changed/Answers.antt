use Rattle.im_laws.proofs.AcceptLemmas.{accepted-changes, accepted-ok, changed-accepted, left-unaccepted}
use Rattle.im_laws.proofs.AcceptLemmas.{unaccepted-leaves}
use Rattle.im_laws.proofs.steps.accepted_where_changed.Goals as goal

pub returns-clause-accepted : goal.returns-clause-accepted
returns-clause-accepted c = λ m command. (accepted-changes m command, changed-accepted m command)

pub returns-clause-unaccepted : goal.returns-clause-unaccepted
returns-clause-unaccepted c = λ m command. (unaccepted-leaves m command, left-unaccepted m command)

pub returns-clause-answered : goal.returns-clause-answered
returns-clause-answered c = accepted-ok
