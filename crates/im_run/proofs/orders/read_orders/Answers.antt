use Rattle.std.proofs.Common.{◌≡◌, ℕ, List, [], map, ap, ◌∙◌, subst}
use Rattle.im_types.specs.Types.{Contents}
use Rattle.im_serial.{proofs.ScriptedLemmas.has_served, proofs.ScriptedLemmas.unserved, specs.Serving.seen_by}
use Rattle.im_run.proofs.BlocksLemmas.{ends_as, passes_as}
use Rattle.im_run.proofs.OrdersLemmas.{if_ok_map, if_ok_of, on_ok_map, orders_read}
use Rattle.im_run.specs.Orders.{ask_of, asks_among, asks_in, first_asked, HasReadTo, IsOfAll, script_heard, settled_by}
use Rattle.im_run.specs.Orders.{settled_when}
use Rattle.im_run.proofs.orders.read_orders.Goals as goal

pub returns-in_default-clause-served : goal.returns-in_default-clause-served
returns-in_default-clause-served g c = unserved _ _ _ _ _

pub returns-in-Ok-set_up-clause-served : goal.returns-in-Ok-set_up-clause-served
returns-in-Ok-set_up-clause-served g c =
    let once = c.args.asked.once in
    has_served c.with_parts.result _ _ _ _ _
    (passes_as (settled_by c.in-Ok.sheet.past) (settled_when once c.args.server.now.session.engine.memory)
    (script_heard c.args.asked.script.now) _ _ _ _
    (c.in-Ok.ensures.settled ∙ ap (settled_when once) c.memory.ensures) c.in-Ok-set_up.ensures.served.serves)

pub returns-in-Err-clause-served : goal.returns-in-Err-clause-served
returns-in-Err-clause-served g c =
    let once = c.args.asked.once in
    let was = c.args.server.now in
    let old = seen_by was (g.W.Write.contents c.args.out.now)
    in
    let n = c.set_up.new.server in
    let new = seen_by n (g.W.Write.contents c.set_up.new.out) in
    record {
      serves = tt;
      ends = ends_as (settled_by c.in-Ok.sheet.past) (settled_when once was.session.engine.memory)
          (script_heard c.args.asked.script.now) was.bases.items old new
          (c.in-Ok.ensures.settled ∙ ap (settled_when once) c.memory.ensures) c.in-Err.ensures.served.ends;
    }

pub returns-in-Ok-set_up-clause-orders : goal.returns-in-Ok-set_up-clause-orders
returns-in-Ok-set_up-clause-orders g c =
    let once = c.args.asked.once in
    let s = c.set_up.new.sheet in
    let bases = c.set_up.new.server.bases.items in
    let first = c.in-Ok.sheet in
    let script = script_heard c.args.asked.script.now in
    let was : settled_by first.past ≡ settled_when once c.args.server.now.session.engine.memory =
    c.in-Ok.ensures.settled ∙ ap (settled_when once) c.memory.ensures in
    if_ok_of _ c.with_parts.result c.make_workload-work.result c.with_parts.ensures.work
    (if_ok_map _ _ c.make_workload-work.result c.make_workload-work.ensures.asked (λ work asked.
    orders_read (first_asked once c.set_up.new.server.session.engine.memory)
    (settled_when once c.args.server.now.session.engine.memory)
    (settled_by s.past) bases script first.orders.items s.orders.items work.orders.items c.in-Ok.ensures.places
    c.in-Ok.ensures.none
    (subst (λ (h : List ℕ). HasReadTo h script first.orders.items (settled_by s.past) [] bases s.orders.items) was
    c.in-Ok-set_up.ensures.read)
    (subst (λ (m : Contents). map ask_of work.orders.items ≡ asks_among (first_asked once m) s.orders.items)
    c.memory-memory.ensures asked)))

pub returns-in-Ok-set_up-clause-whole : goal.returns-in-Ok-set_up-clause-whole
returns-in-Ok-set_up-clause-whole g c = if_ok_of _ c.with_parts.result c.make_workload-work.result
    c.with_parts.ensures.work (if_ok_map _ _ c.make_workload-work.result c.make_workload-work.ensures.whole
    (λ work whole. subst (λ (b : List ℕ). IsOfAll c.args.asked.once b (script_heard c.args.asked.script.now)
    (asks_in work.whole)) c.as_slice-bases.ensures.value whole))

pub returns-in-Ok-set_up-clause-planned : goal.returns-in-Ok-set_up-clause-planned
returns-in-Ok-set_up-clause-planned g c = if_ok_of _ c.with_parts.result c.make_workload-work.result
    c.with_parts.ensures.work c.make_workload-work.ensures.planned

pub returns-in-Ok-set_up-clause-there : goal.returns-in-Ok-set_up-clause-there
returns-in-Ok-set_up-clause-there g c =
    on_ok_map _ _ c.with_parts.result c.with_parts.ensures.there c.in-Ok-set_up.ensures.there
