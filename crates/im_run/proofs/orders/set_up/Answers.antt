use Rattle.im_run.proofs.{BlocksLemmas.flushed, OrdersLemmas.ok_if}
use Rattle.im_run.proofs.orders.set_up.Goals as goal

pub returns-in-Ok-clause-served : goal.returns-in-Ok-clause-served
returns-in-Ok-clause-served g c =
    let s = c.take_lines.new.server in
    flushed c.flush.result _ _ _ _ s.session (g.W.Write.contents c.take_lines.new.out)
    (g.W.Write.contents c.flush.new.out) s.lines c.flush.new.self s.waited.items s.places.marks.items
    c.flush.ensures.on c.in-Ok.ensures.served.serves

pub returns-in-Ok-clause-read : goal.returns-in-Ok-clause-read
returns-in-Ok-clause-read g c = ok_if _ c.flush.result c.in-Ok.ensures.read

pub returns-in-Ok-clause-there : goal.returns-in-Ok-clause-there
returns-in-Ok-clause-there g c = ok_if _ c.flush.result c.in-Ok.ensures.there
