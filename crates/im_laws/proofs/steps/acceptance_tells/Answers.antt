use Rattle.im_laws.proofs.AcceptLemmas.{acceptance-changes, acceptance-leaves, acceptance-refused, changes-acceptance}
use Rattle.im_laws.proofs.AcceptLemmas.{leaves-acceptance, refused-acceptance}
use Rattle.im_laws.proofs.steps.acceptance_tells.Goals as goal

pub returns-clause-refused : goal.returns-clause-refused
returns-clause-refused c = λ m command refusal.
    (acceptance-refused m command refusal, refused-acceptance m command refusal)

pub returns-clause-changes : goal.returns-clause-changes
returns-clause-changes c = λ m command. (acceptance-changes m command, changes-acceptance m command)

pub returns-clause-leaves : goal.returns-clause-leaves
returns-clause-leaves c = λ m command. (acceptance-leaves m command, leaves-acceptance m command)
