use Rattle.im_laws.proofs.AllocateLemmas.{allocation-cells, allocation-least, allocation-no_space}
use Rattle.im_laws.proofs.blocks.allocation_takes_the_least_place.Goals as goal

pub returns-clause-least : goal.returns-clause-least
returns-clause-least c = allocation-least

pub returns-clause-made : goal.returns-clause-made
returns-clause-made c = λ m r kind n base served a lies. allocation-cells m r kind n base a served lies.0 lies.1

pub returns-clause-no_space : goal.returns-clause-no_space
returns-clause-no_space c = allocation-no_space
