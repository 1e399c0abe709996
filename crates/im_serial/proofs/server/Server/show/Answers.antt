use Rattle.std.proofs.Common.{[]}
use Rattle.im_serial.proofs.ScriptedLemmas.{has_served, passes_refl, prints_on}
use Rattle.im_serial.proofs.server.Server.show.Goals as goal

pub returns-then-listens : goal.returns-then-listens
returns-then-listens g c = record {
  served = has_served c.flush.result _ _ _ _ _ (prints_on _ _ _ _ _ _ _ _ c.flush.ensures.on);
}

pub returns-else-listens : goal.returns-else-listens
returns-else-listens g c = record { served = has_served _ _ _ _ _ _ (passes_refl [] _ _) }
