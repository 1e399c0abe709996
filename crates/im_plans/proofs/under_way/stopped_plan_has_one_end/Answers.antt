use Rattle.im_plans.proofs.{UnderWayLaws.runs-served, Values.runs-value}
use Rattle.im_plans.proofs.under_way.stopped_plan_has_one_end.Goals as goal

pub returns-clause-entries : goal.returns-clause-entries
returns-clause-entries c = runs-served

pub returns-clause-cells : goal.returns-clause-cells
returns-clause-cells c = runs-value
