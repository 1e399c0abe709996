use Rattle.std.proofs.Common.{◌-◌, ap, ◌∙◌, arith}
use Rattle.im_serial.proofs.SettledLemmas.{counted_all, counted_more}
use Rattle.im_serial.proofs.past.Past.settled.Goals as goal

pub loop-element-preserved : goal.loop-element-preserved
loop-element-preserved c = c.in_ok-push.ensures.items ∙ counted_more c.args.memory.now.contents c.loop-element.element
    c.saturating_sub.result c.loop-element.many.items c.loop-element.invariant
    (omega (arith, c.loop-element-test.true, c.elements-elements.ensures.count)) (c.saturating_sub.ensures
    ∙ ap (λ n. n - 1) c.first_open.ensures)

pub returns-clause-many : goal.returns-clause-many
returns-clause-many c = c.loop-element.invariant ∙ counted_all c.args.memory.now.contents c.loop-element.element
    (omega (arith, c.loop-element-test.false, c.elements-elements.ensures.count))
