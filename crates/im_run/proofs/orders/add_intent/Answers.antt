use Rattle.std.proofs.{Common.◌≡◌, Common.length, Common.arith, lemmas.Option.slice_get_read}
use Rattle.im_run.proofs.OrdersLemmas.{added_at, on_ok_map}

pub returns : Rattle.im_run.proofs.orders.add_intent.Goals.returns
returns c =
    let orders = c.args.orders.now.items in
    let o = c.index_mut.result.now in
    let many : c.len.result ≡ length orders = omega (arith, c.len.ensures, c.args.orders.now.ok) in
    on_ok_map _ _ c.push_intent.result c.push_intent.ensures.pushed (λ pushed.
    added_at orders c.args.element o c.push_intent.new.order c.args.intent
    (slice_get_read orders c.len.result c.args.element o many c.if-at-len.false c.index_mut.ensures.value) pushed
    c.push_intent.ensures.element)
