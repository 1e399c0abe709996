use Rattle.im_plans.proofs.UnderWayLaws.{after-goes_on, call-goes_on, runs-go_on, runs-result}
use Rattle.im_plans.proofs.UnderWayLemmas.{fits-begins}
use Rattle.im_plans.proofs.under_way.plan_stays_under_way.Goals as goal

pub returns-clause-begins : goal.returns-clause-begins
returns-clause-begins c = fits-begins

pub returns-clause-step : goal.returns-clause-step
returns-clause-step c = call-goes_on

pub returns-clause-after : goal.returns-clause-after
returns-clause-after c = after-goes_on

pub returns-clause-stays : goal.returns-clause-stays
returns-clause-stays c = runs-go_on

pub returns-clause-results : goal.returns-clause-results
returns-clause-results c = runs-result
