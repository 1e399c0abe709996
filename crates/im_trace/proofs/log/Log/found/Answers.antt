use Rattle.std.proofs.Common.{ap}
use Rattle.im_trace.proofs.log.Log.found.Goals as goal

pub invariant_of-result : goal.invariant_of-result
invariant_of-result g c = rw c.prefix.ensures.same (
  (c.prefix.ensures.legal, c.requires.ends),
  c.requires.told,
  ap (λ w. w.lines) c.last.ensures.last,
)

pub returns-clause-proof : goal.returns-clause-proof
returns-clause-proof g c = (c.prefix.ensures.legal, c.requires.ends)
