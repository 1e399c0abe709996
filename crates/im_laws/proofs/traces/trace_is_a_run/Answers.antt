use Rattle.im_laws.proofs.TraceLemmas.{command_answers-legal, end_of-commands}
use Rattle.im_laws.proofs.traces.trace_is_a_run.Goals as goal

pub returns-clause-end : goal.returns-clause-end
returns-clause-end c = end_of-commands

pub returns-clause-answer : goal.returns-clause-answer
returns-clause-answer c = command_answers-legal
