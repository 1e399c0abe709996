use Rattle.std.proofs.Common.{false, sym, refl, ◌∙◌}
use Rattle.im_run.proofs.OrdersLemmas.{adds_request, on_ok_map}

pub returns-in-Some : Rattle.im_run.proofs.orders.add_line.Goals.returns-in-Some
returns-in-Some c = on_ok_map _ _ c.add_intent.result c.add_intent.ensures (adds_request c.args.bases.now (record {
  element = c.args.line.element;
  action = c.args.line.action;
  named = false;
}) c.in-Some.op _ _ refl (sym c.op.ensures ∙ c.in-Some.is))
