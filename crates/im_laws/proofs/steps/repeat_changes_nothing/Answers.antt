use Rattle.im_laws.proofs.EntryLemmas.{accepted-kept, step-mismatch, step-repeat}
use Rattle.im_laws.proofs.steps.repeat_changes_nothing.Goals as goal

pub returns-clause-same : goal.returns-clause-same
returns-clause-same c = step-repeat

pub returns-clause-other : goal.returns-clause-other
returns-clause-other c = step-mismatch

pub returns-clause-unaccepted : goal.returns-clause-unaccepted
returns-clause-unaccepted c = accepted-kept
