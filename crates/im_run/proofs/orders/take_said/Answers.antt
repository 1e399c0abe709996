use Rattle.std.proofs.Common.{refl, ap, ◌∙◌}
use Rattle.im_script.specs.declared.{Heard.TheVariants.Says, Said.Said}
use Rattle.im_serial.{proofs.ScriptedLemmas.quiet, specs.Asked.wanted_by, specs.Had.news}
use Rattle.im_run.proofs.BlocksLemmas.{served_as, unchanged}
use Rattle.im_run.proofs.OrdersLemmas.{heard_asked, heard_block, heard_from, heard_nothing, on_ok_map, prefix_same}
use Rattle.im_run.specs.Orders.{blocks_among, line_blocks, settled_by}
use Rattle.im_run.proofs.orders.take_said.Goals as goal

pub returns-then-has-clause-served : goal.returns-then-has-clause-served
returns-then-has-clause-served g c = quiet _
    (line_blocks (settled_by c.args.sheet.now.past) (Says c.args.said)) _ _
    (ap blocks_among (c.has.ensures.had c.if-has.true))

pub returns-in-Nothing-clause-served : goal.returns-in-Nothing-clause-served
returns-in-Nothing-clause-served g c =
    let had = settled_by c.args.sheet.now.past in
    quiet _ (line_blocks had (Says c.args.said)) _ _
    (ap (λ (s : Said). blocks_among (news had (wanted_by s))) c.in-Nothing.is)

pub returns-in-Begins-clause-served : goal.returns-in-Begins-clause-served
returns-in-Begins-clause-served g c =
    let had = settled_by c.args.sheet.now.past in
    quiet _ (line_blocks had (Says c.args.said)) _ _
    (ap (λ (s : Said). blocks_among (news had (wanted_by s))) c.in-Begins.is)

pub returns-in-Block-clause-served : goal.returns-in-Block-clause-served
returns-in-Block-clause-served g c = served_as c.make_block.result _ _ _ _ _ _
    (ap blocks_among (c.has.ensures.new c.if-has.false ∙ ap wanted_by c.in-Block.is)) c.make_block.ensures.served

pub returns-in-Asks-clause-served : goal.returns-in-Asks-clause-served
returns-in-Asks-clause-served g c = unchanged c.add_line.result
    (line_blocks (settled_by c.args.sheet.now.past) (Says c.args.said)) _ _
    (ap blocks_among (c.has.ensures.new c.if-has.false ∙ ap wanted_by c.in-Asks.is))

pub returns-then-has-clause-heard : goal.returns-then-has-clause-heard
returns-then-has-clause-heard g c = heard_from _ _ _ _ _ _ _ _ c.has.ensures.orders
    (heard_nothing (settled_by c.args.sheet.now.past) _ _ _ c.args.said c.has.new.self.orders.items
    (prefix_same _ _ refl) (c.has.ensures.had c.if-has.true) c.has.ensures.left)

pub returns-in-Nothing-clause-heard : goal.returns-in-Nothing-clause-heard
returns-in-Nothing-clause-heard g c =
    let had = settled_by c.args.sheet.now.past in
    heard_from _ _ _ _ _ _ _ _ c.has.ensures.orders
    (heard_nothing had _ _ _ c.args.said c.has.new.self.orders.items (prefix_same _ _ refl)
    (ap (λ (s : Said). news had (wanted_by s)) c.in-Nothing.is) c.has.ensures.left)

pub returns-in-Begins-clause-heard : goal.returns-in-Begins-clause-heard
returns-in-Begins-clause-heard g c =
    let had = settled_by c.args.sheet.now.past in
    heard_from _ _ _ _ _ _ _ _ c.has.ensures.orders
    (heard_nothing had _ _ _ c.args.said c.has.new.self.orders.items (prefix_same _ _ refl)
    (ap (λ (s : Said). news had (wanted_by s)) c.in-Begins.is) c.has.ensures.left)

pub returns-in-Block-clause-heard : goal.returns-in-Block-clause-heard
returns-in-Block-clause-heard g c =
    let b = c.make_block in
    let s = b.new.sheet in
    on_ok_map _ _ b.result b.ensures.longer (λ longer.
    heard_from _ _ _ _ _ _ _ _ (b.ensures.orders ∙ c.has.ensures.orders)
    (heard_block (settled_by c.args.sheet.now.past) (settled_by s.past) c.args.server.now.bases.items
    b.new.server.bases.items c.args.said c.in-Block.block s.orders.items c.in-Block.is longer
    (c.has.ensures.new c.if-has.false) (b.ensures.past ∙ c.has.ensures.left)))

pub returns-in-Asks-clause-heard : goal.returns-in-Asks-clause-heard
returns-in-Asks-clause-heard g c = on_ok_map _ _ c.add_line.result c.add_line.ensures (λ adds.
    heard_from _ _ _ _ _ _ _ _ c.has.ensures.orders
    (heard_asked (settled_by c.args.sheet.now.past) _ _ c.args.server.now.bases.items c.as_slice.result.now c.args.said
    c.in-Asks.line c.has.new.self.orders.items c.add_line.new.orders.items c.in-Asks.is c.as_slice.ensures.value
    (prefix_same _ _ refl) adds (c.has.ensures.new c.if-has.false) c.has.ensures.left))
