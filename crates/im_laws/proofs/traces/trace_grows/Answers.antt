use Rattle.std.proofs.Common.{[], ◌∷◌}
use Rattle.im_laws.proofs.TraceLemmas.{end_of-append, IsLegal-push, IsLegal-split}
use Rattle.im_laws.proofs.traces.trace_grows.Goals as goal

pub returns-clause-end : goal.returns-clause-end
returns-clause-end c = λ m trace line. end_of-append m trace (line ∷ [])

pub returns-clause-legal : goal.returns-clause-legal
returns-clause-legal c = λ m trace line legal.
    (λ longer. (IsLegal-split m trace (line ∷ []) longer).1.0, IsLegal-push m trace line legal)
