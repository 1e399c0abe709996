use Rattle.im_plans.proofs.UnderWayLaws.{runs-kept, runs-told, runs-wait}
use Rattle.im_plans.proofs.under_way.stopped_runs_tell_results.Goals as goal

pub returns-clause-told : goal.returns-clause-told
returns-clause-told c = runs-told

pub returns-clause-kept : goal.returns-clause-kept
returns-clause-kept c = runs-kept

pub returns-clause-waits : goal.returns-clause-waits
returns-clause-waits c = runs-wait
