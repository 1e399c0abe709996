use Rattle.im_laws.proofs.JudgeLemmas.{accepted-next, next-accepted, step-full, step-gap, step-no_element}
use Rattle.im_laws.proofs.windows.requests_are_judged_by_bounds.Goals as goal

pub returns-clause-accepted : goal.returns-clause-accepted
returns-clause-accepted c = λ m r. (accepted-next m r, next-accepted m r)

pub returns-clause-no_element : goal.returns-clause-no_element
returns-clause-no_element c = step-no_element

pub returns-clause-gap : goal.returns-clause-gap
returns-clause-gap c = step-gap

pub returns-clause-full : goal.returns-clause-full
returns-clause-full c = step-full
