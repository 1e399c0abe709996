use Rattle.im_journal.proofs.Tails.{boundary_end, boundary_few}
use Rattle.im_meaning.proofs.runs_end_at_boundaries.Goals as goal

pub returns-clause-end : goal.returns-clause-end
returns-clause-end c = λ r first file t e. boundary_end r first file t e

pub returns-clause-low : goal.returns-clause-low
returns-clause-low c = λ r first k file t e boundary. boundary_few r first k file t e boundary
