use Rattle.std.proofs.Common.{ap}
use Rattle.im_script.specs.declared.Heard.{Heard}
use Rattle.im_run.proofs.{BlocksLemmas.unchanged, OrdersLemmas.heard_glance, OrdersLemmas.on_ok_map}
use Rattle.im_run.specs.Orders.{line_blocks, settled_by}
use Rattle.im_run.proofs.orders.take_heard.Goals as goal

pub returns-in-Glances-clause-served : goal.returns-in-Glances-clause-served
returns-in-Glances-clause-served g c =
    let had = settled_by c.args.sheet.now.past in
    unchanged c.add_glance.result (line_blocks had c.args.heard) _ _
    (ap (λ (h : Heard). line_blocks had h) c.in-Glances.is)

pub returns-in-Glances-clause-heard : goal.returns-in-Glances-clause-heard
returns-in-Glances-clause-heard g c = on_ok_map _ _ c.add_glance.result c.add_glance.ensures
    (heard_glance (settled_by c.args.sheet.now.past) c.args.server.now.bases.items c.as_slice.result.now c.args.heard
    c.in-Glances.element c.in-Glances.place _ _ c.in-Glances.is c.as_slice.ensures.value)

pub returns-in-Says-clause-served : goal.returns-in-Says-clause-served
returns-in-Says-clause-served g c = rw c.in-Says.is c.take_said.ensures.served

pub returns-in-Says-clause-heard : goal.returns-in-Says-clause-heard
returns-in-Says-clause-heard g c = rw c.in-Says.is c.take_said.ensures.heard
