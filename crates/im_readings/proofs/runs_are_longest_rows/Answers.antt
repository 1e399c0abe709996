use Rattle.std.proofs.Common.{refl}
use Rattle.im_readings.proofs.{RowLemmas.longest_of, RowLemmas.nth_slot, RowLemmas.spelled_by, TailLemmas.run_count}
use Rattle.im_readings.proofs.runs_are_longest_rows.Goals as goal

pub returns-clause-found : goal.returns-clause-found
returns-clause-found c = λ ring first file commands read. longest_of ring file ring.slots first commands refl read

pub returns-clause-only : goal.returns-clause-only
returns-clause-only c = λ ring first file commands has. spelled_by ring file first commands has

pub returns-clause-count : goal.returns-clause-count
returns-clause-count c = λ ring first file commands has. run_count ring file first commands has

pub returns-clause-rest : goal.returns-clause-rest
returns-clause-rest c = λ ring first file i low. nth_slot ring file ring.slots 0 first i low
