use Rattle.im_controller.proofs.StopLemmas.{ends-joined, leads-goes_on, left-leads}
use Rattle.im_controller.proofs.stops.stopped_runs_end_as_one.Goals as goal

pub returns-clause-left : goal.returns-clause-left
returns-clause-left c = λ m n plan file count room left means. left-leads plan m n file count room left means

pub returns-clause-goes_on : goal.returns-clause-goes_on
returns-clause-goes_on c = λ m n plan g first. leads-goes_on plan m n g first

pub returns-clause-ends : goal.returns-clause-ends
returns-clause-ends c = λ m n end plan trace g first e. ends-joined plan m n end trace g first e
