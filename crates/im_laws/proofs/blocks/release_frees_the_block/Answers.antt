use Rattle.im_laws.proofs.AllocateLemmas.{release-frees, release-nobody}
use Rattle.im_laws.proofs.blocks.release_frees_the_block.Goals as goal

pub returns-clause-freed : goal.returns-clause-freed
returns-clause-freed c = λ m r a blocks served b block. release-frees m r a blocks served b block

pub returns-clause-nobody : goal.returns-clause-nobody
returns-clause-nobody c = λ m r a blocks served b block. release-nobody m r a blocks served b block
