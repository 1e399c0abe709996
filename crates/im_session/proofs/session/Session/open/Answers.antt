use Rattle.std.proofs.Common.{refl, ap, ◌∙◌}
use Rattle.im_session.specs.Kept.{SessionState}
use Rattle.im_session.proofs.session.Session.open.Goals as goal

pub returns-in-Ok-clause-opened : goal.returns-in-Ok-clause-opened
returns-in-Ok-clause-opened g c =
    ap (λ (s : SessionState g.row.D.Denot). s.start.disk) c.begin.ensures ∙ c.of-before.ensures

pub returns-in-Ok-clause-fresh : goal.returns-in-Ok-clause-fresh
returns-in-Ok-clause-fresh g c = rw (c.begin.ensures) refl
