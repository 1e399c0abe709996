use Rattle.std.proofs.Common.{sym, ◌∙◌}
use Rattle.im_run.proofs.OrdersLemmas.{adds_glance, on_ok_map}

pub returns-in-Some : Rattle.im_run.proofs.orders.add_glance.Goals.returns-in-Some
returns-in-Some c = on_ok_map _ _ c.add_intent.result c.add_intent.ensures
    (adds_glance c.args.bases.now c.args.element c.args.place c.in-Some.address _ _
    (sym c.address.ensures ∙ c.in-Some.is))
