use Rattle.im_pipes.proofs.RuleLemmas.{receives}
use Rattle.im_pipes.proofs.ends.take.Goals as goal

pub recv_as-requires-clause-rule : goal.recv_as-requires-clause-rule
recv_as-requires-clause-rule g c = (receives _ _ c.requires.receives, λ items views h at. tt)

pub try_recv_as-requires-clause-rule : goal.try_recv_as-requires-clause-rule
try_recv_as-requires-clause-rule g c = (receives _ _ c.requires.receives, λ items views h at. tt)
