use Rattle.im_laws.proofs.AllocateLemmas.{reset-empties, reset-nobody}
use Rattle.im_laws.proofs.blocks.reset_empties_the_block.Goals as goal

pub returns-clause-emptied : goal.returns-clause-emptied
returns-clause-emptied c = λ m r a blocks served b block. reset-empties m r a blocks served b block

pub returns-clause-nobody : goal.returns-clause-nobody
returns-clause-nobody c = λ m r a blocks served b block. reset-nobody m r a blocks served b block
