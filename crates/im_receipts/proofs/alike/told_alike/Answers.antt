use Rattle.im_receipts.proofs.Tellings.{both, is_telling}

pub returns : Rattle.im_receipts.proofs.alike.told_alike.Goals.returns
returns g c = record {
  alike = λ r first second gives gives'.
      let m = g.K.Name.origin.memory in
      let one = c.args.one.now in
      let two = c.args.two.now in
      let law = c.traces_tell_a_request_alike.ensures in
      both law.alike law.still m r c.order.ensures.memory.agrees one.history two.history first second
      (is_telling m r first one gives c.outcome.ensures.legal c.outcome.ensures.last)
      (is_telling m r second two gives' c.outcome-2.ensures.legal
      c.outcome-2.ensures.last)
      (rw (← c.history.ensures, ← c.history-2.ensures) c.order.ensures.order);
}
