use Rattle.im_types.specs.Types.{empty_contents}
use Rattle.im_laws.proofs.MemoryLemmas.{after-memory, empty-memory, step-memory}
use Rattle.im_laws.proofs.memories.memory_stays_one.Goals as goal

pub returns-clause-empty : goal.returns-clause-empty
returns-clause-empty c = empty-memory

pub returns-clause-step : goal.returns-clause-step
returns-clause-step c = step-memory

pub returns-clause-run : goal.returns-clause-run
returns-clause-run c = after-memory

pub returns-clause-reached : goal.returns-clause-reached
returns-clause-reached c = λ cells elements commands. after-memory cells elements
    (empty_contents cells elements) commands (empty-memory cells elements)
