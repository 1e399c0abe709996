use Rattle.im_laws.proofs.ForgetLemmas.{after-forgotten, ask-forgotten, asked-forgotten, step-forgotten}
use Rattle.im_laws.proofs.windows.forgotten_for_ever.Goals as goal

pub returns-clause-stays : goal.returns-clause-stays
returns-clause-stays c = after-forgotten

pub returns-clause-refused : goal.returns-clause-refused
returns-clause-refused c = step-forgotten

pub returns-clause-told : goal.returns-clause-told
returns-clause-told c = λ windows who. (ask-forgotten windows who, asked-forgotten windows who)
