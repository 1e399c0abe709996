use Rattle.im_laws.proofs.RunLemmas.{accepted-accepted, after-accepted}
use Rattle.im_laws.proofs.runs.only_accepted_commands_matter.Goals as goal

pub returns-clause-memory : goal.returns-clause-memory
returns-clause-memory c = after-accepted

pub returns-clause-again : goal.returns-clause-again
returns-clause-again c = accepted-accepted
