use Rattle.std.proofs.Common.{ap}
use Rattle.im_serial.specs.Asked.{wanted_by}
use Rattle.im_run.proofs.OrdersLemmas.{on_ok_map}
use Rattle.im_run.proofs.WholeLemmas.{whole_asked, whole_block, whole_nothing}
use Rattle.im_run.proofs.whole.add_said.Goals as goal

pub returns-in-Nothing : goal.returns-in-Nothing
returns-in-Nothing c = whole_nothing c.args.bases.now c.args.said c.args.orders.now.items (ap wanted_by c.in-Nothing.is)

pub returns-in-Begins : goal.returns-in-Begins
returns-in-Begins c = whole_nothing c.args.bases.now c.args.said c.args.orders.now.items (ap wanted_by c.in-Begins.is)

pub returns-in-Block : goal.returns-in-Block
returns-in-Block c = whole_block c.args.bases.now c.args.said _ c.args.orders.now.items c.in-Block.is

pub returns-in-Asks : goal.returns-in-Asks
returns-in-Asks c = on_ok_map _ _ c.add_line.result c.add_line.ensures
    (whole_asked c.args.bases.now c.args.said c.in-Asks.line c.args.orders.now.items c.add_line.new.orders.items
    c.in-Asks.is)
