use Rattle.im_types.specs.Types.{empty_contents}
use Rattle.im_laws.proofs.RunAgrees.{after-agrees, empty-agrees, step-agrees}
use Rattle.im_laws.proofs.agreement.waiting_agrees.Goals as goal

pub returns-clause-step : goal.returns-clause-step
returns-clause-step c = step-agrees

pub returns-clause-run : goal.returns-clause-run
returns-clause-run c = λ cells elements commands. after-agrees (empty_contents cells elements) commands
    (empty-agrees cells elements)
