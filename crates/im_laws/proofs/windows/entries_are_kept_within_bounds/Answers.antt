use Rattle.im_laws.proofs.{EntryLemmas.ask-kept, ForgetLemmas.ask-forgotten, ForgetLemmas.bounds-forgotten}
use Rattle.im_laws.proofs.JudgeLemmas.{ask-gap, ask-no_element, bounds-kept}
use Rattle.im_laws.proofs.windows.entries_are_kept_within_bounds.Goals as goal

pub returns-clause-below : goal.returns-clause-below
returns-clause-below c = λ windows who base next are below. ask-forgotten windows who
    (bounds-forgotten windows who base next are below)

pub returns-clause-within : goal.returns-clause-within
returns-clause-within c = bounds-kept

pub returns-clause-told : goal.returns-clause-told
returns-clause-told c = ask-kept

pub returns-clause-past : goal.returns-clause-past
returns-clause-past c = ask-gap

pub returns-clause-no_element : goal.returns-clause-no_element
returns-clause-no_element c = ask-no_element
