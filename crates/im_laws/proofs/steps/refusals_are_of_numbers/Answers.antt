use Rattle.im_laws.proofs.RefusalLemmas.{ask-refusals, step-refusals}
use Rattle.im_laws.proofs.steps.refusals_are_of_numbers.Goals as goal

pub returns-clause-command : goal.returns-clause-command
returns-clause-command c = step-refusals

pub returns-clause-question : goal.returns-clause-question
returns-clause-question c = ask-refusals
