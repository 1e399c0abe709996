use Rattle.im_readings.proofs.TailLemmas.{has_tail, tail_there}
use Rattle.im_readings.proofs.tails_are_longest_rows.Goals as goal

pub returns-clause-found : goal.returns-clause-found
returns-clause-found c = λ ring first file t e. has_tail ring file first t e

pub returns-clause-only : goal.returns-clause-only
returns-clause-only c = λ ring first file t there. tail_there ring file first t there
