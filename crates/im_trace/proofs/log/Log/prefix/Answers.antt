use Rattle.std.proofs.Common.{subst}
use Rattle.im_types.specs.Types.{IsLegal}
use Rattle.im_trace.specs.Log.{TimedLog}

pub returns-clause-legal : Rattle.im_trace.proofs.log.Log.prefix.Goals.returns-clause-legal
returns-clause-legal g c =
    subst (λ (l : TimedLog). IsLegal g.K.Name.origin.memory l.state.trace) c.self.view_is c.self.invariant.legal
