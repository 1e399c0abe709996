use Rattle.std.proofs.Common.{◌≡◌, ◌+◌, List, [], ◌∷◌, length, sym, ap, ◌∙◌, subst, arith, length-append}
use Rattle.im_run.proofs.OrdersLemmas.{blank_more, turn_more}
use Rattle.im_run.specs.{declared.sheet.Order.Order, Orders.AreInTurn, Orders.intents_at}

pub loop-element-preserved : Rattle.im_run.proofs.numbering.no_orders.Goals.loop-element-preserved
loop-element-preserved c =
    let it = c.loop-element.invariant in
    let o = c.no_order.result in
    let was = c.loop-element.orders.items in
    let now = sym c.in_ok-push.ensures.items in
    let place : o.element ≡ 0 + length was = omega (arith, c.no_order.ensures.element, it.count) in
    record {
      turn = subst (AreInTurn 0) now (turn_more was 0 o it.turn place);
      none = λ k. subst (λ (l : List Order). intents_at l k ≡ []) now (blank_more was o it.none
          c.no_order.ensures.none k);
      count = ap length (sym now) ∙ (omega (arith, length-append was (o ∷ []), it.count));
    }
