use Rattle.im_run.proofs.EndLemmas.{same_cells, same_entries}
use Rattle.im_run.proofs.stops.planned_scripts_have_one_end.Goals as goal

pub returns-clause-cells : goal.returns-clause-cells
returns-clause-cells c = same_cells

pub returns-clause-entries : goal.returns-clause-entries
returns-clause-entries c = same_entries
