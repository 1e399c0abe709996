use Rattle.std.proofs.Common.{[], refl}
use Rattle.im_run.proofs.OrdersLemmas.{heard_glance, on_ok_map}
use Rattle.im_run.proofs.whole.add_heard.Goals as goal

pub returns-in-Glances : goal.returns-in-Glances
returns-in-Glances c = on_ok_map _ _ c.add_glance.result c.add_glance.ensures
    (heard_glance [] c.args.bases.now c.args.bases.now c.args.heard c.in-Glances.element c.in-Glances.place _ _
    c.in-Glances.is refl)

pub returns-in-Says : goal.returns-in-Says
returns-in-Says c = rw c.in-Says.is c.add_said.ensures
