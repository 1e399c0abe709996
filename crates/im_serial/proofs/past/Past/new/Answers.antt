use Rattle.std.proofs.Common.{◌∙◌, arith}
use Rattle.im_serial.proofs.OnceLemmas.{had_all, had_more}
use Rattle.im_serial.proofs.past.Past.new.Goals as goal

pub loop-element-preserved : goal.loop-element-preserved
loop-element-preserved c = c.in_ok-push.ensures.items ∙ had_more c.args.memory.now.contents c.loop-element.element
    c.count_of.result c.loop-element.many.items c.loop-element.invariant
    (omega (arith, c.loop-element-test.true, c.elements-elements.ensures.count)) c.count_of.ensures

pub returns-clause-many : goal.returns-clause-many
returns-clause-many c = c.loop-element.invariant ∙ had_all c.args.memory.now.contents c.loop-element.element
    (omega (arith, c.loop-element-test.false, c.elements-elements.ensures.count))
