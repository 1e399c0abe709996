use Rattle.std.proofs.Common.{◌≡◌, ℕ, [], length}
use Rattle.im_run.specs.Orders.{AreInTurn, intents_at}

abbrev pub invariant-loop-element : Rattle.im_run.proofs.numbering.no_orders.Given.invariant-loop-element
invariant-loop-element l = record {
  turn : AreInTurn 0 l.orders.items;
  none : (k : ℕ) → intents_at l.orders.items k ≡ [];
  count : length l.orders.items ≡ l.element;
}
