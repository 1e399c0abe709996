use Rattle.im_fulls.proofs.BelowLemmas.{command-below, opening-below}
use Rattle.im_fulls.proofs.changes_are_of_the_cells.Goals as goal

pub returns-clause-step : goal.returns-clause-step
returns-clause-step c = command-below

pub returns-clause-opening : goal.returns-clause-opening
returns-clause-opening c = opening-below
