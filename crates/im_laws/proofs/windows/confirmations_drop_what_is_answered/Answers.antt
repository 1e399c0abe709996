use Rattle.im_laws.proofs.JudgeLemmas.{confirm-cells, confirm-gap, confirm-no_element, confirm-waits}
use Rattle.im_laws.proofs.JudgeLemmas.{confirmed-confirmable, kept_for-confirmed, step-confirmed}
use Rattle.im_laws.proofs.windows.confirmations_drop_what_is_answered.Goals as goal

pub returns-clause-confirmed : goal.returns-clause-confirmed
returns-clause-confirmed c = λ m element upto. (confirmed-confirmable m element upto, step-confirmed m element upto)

pub returns-clause-dropped : goal.returns-clause-dropped
returns-clause-dropped c = λ m element upto confirmed who. kept_for-confirmed m element upto who confirmed

pub returns-clause-cells : goal.returns-clause-cells
returns-clause-cells c = confirm-cells

pub returns-clause-no_element : goal.returns-clause-no_element
returns-clause-no_element c = confirm-no_element

pub returns-clause-gap : goal.returns-clause-gap
returns-clause-gap c = confirm-gap

pub returns-clause-waits : goal.returns-clause-waits
returns-clause-waits c = λ m element upto w.
    confirm-waits m element upto w.base w.next w.number w.kept w.are w.reached w.below w.is w.waits
