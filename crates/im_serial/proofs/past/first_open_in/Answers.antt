use Rattle.std.proofs.Common.{sym, ap, ◌∙◌, arith}
use Rattle.im_serial.proofs.SettledLemmas.{is_unsettled, settled_first, settled_here, settled_last, settled_more}
use Rattle.im_serial.proofs.past.first_open_in.Goals as goal

pub loop-number-init : goal.loop-number-init
loop-number-init c = settled_first c.args.memory.now.contents.windows c.args.element c.args.base c.args.next
    c.requires.there

pub loop-number-preserved : goal.loop-number-preserved
loop-number-preserved c = settled_more c.args.memory.now.contents.windows c.args.element c.args.base c.args.next
    c.requires.there c.loop-number.number c.loop-number.invariant (omega (arith, c.loop-number-test.true))
    (ap is_unsettled (sym c.kept.ensures) ∙ sym c.is_unsettled.ensures ∙ c.if-is_unsettled.false)

pub returns-then-is_unsettled : goal.returns-then-is_unsettled
returns-then-is_unsettled c = settled_here c.args.memory.now.contents.windows c.args.element c.args.base c.args.next
    c.requires.there c.loop-number.number c.loop-number.invariant
    (ap is_unsettled (sym c.kept.ensures) ∙ sym c.is_unsettled.ensures ∙ c.if-is_unsettled.true)

pub returns : goal.returns
returns c = settled_last c.args.memory.now.contents.windows c.args.element c.args.base c.args.next
    c.requires.there c.loop-number.number c.loop-number.invariant (omega (arith, c.loop-number-test.false))
