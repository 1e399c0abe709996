use Rattle.im_laws.proofs.MemoryLemmas.{after-blocks, step-blocks}
use Rattle.im_laws.proofs.blocks.blocks_stay_whole.Goals as goal

pub returns-clause-step : goal.returns-clause-step
returns-clause-step c = step-blocks

pub returns-clause-run : goal.returns-clause-run
returns-clause-run c = after-blocks
