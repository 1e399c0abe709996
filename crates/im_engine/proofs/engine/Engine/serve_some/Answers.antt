use Rattle.std.proofs.Common.{rules}
use Rattle.im_engine.proofs.engine.Engine.serve_some.Goals as goal

pub serve_judged-requires-clause-members : goal.serve_judged-requires-clause-members
serve_judged-requires-clause-members g c = record {
  few = search rules;
  whole = λ is. absurd (cc);
  each = λ is. record { few = search rules; taken = search rules };
}
