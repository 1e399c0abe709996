use Rattle.std.proofs.Common.{sym, ap, ◌∙◌}
use Rattle.im_image.proofs.Encoding.{bounds-none, bounds-some, entries-all, entry-more, entry-there, past-new}
use Rattle.im_image.proofs.Encoding.{with_entry}
use Rattle.im_image.proofs.pages.window_at.Goals as goal

pub returns-in_default-clause-window : goal.returns-in_default-clause-window
returns-in_default-clause-window c =
    c.new.ensures ∙ past-new c.args.records.now.windows c.args.element
    (bounds-none c.args.records.now.windows c.args.element c.in_default.field-0 c.in_default.ensures.bounds)

pub unreachable-requires : goal.unreachable-requires
unreachable-requires c =
    let windows = c.args.records.now.windows in
    entry-there windows c.args.element c.in-Ok.base c.in-Ok.next
    (bounds-some windows c.args.element c.in-Ok.base c.in-Ok.next c.in-Ok.ensures.bounds)
    c.loop-number.number c.loop-number.auto.number c.loop-number-test.true (sym c.in_default-kept.is ∙ c.kept.ensures)

pub loop-number-preserved : goal.loop-number-preserved
loop-number-preserved c =
    let windows = c.args.records.now.windows in
    c.push.ensures
    ∙ ap (with_entry c.in-Some.kept) c.loop-number.invariant
    ∙ entry-more windows c.args.element c.in-Ok.base c.in-Ok.next
    (bounds-some windows c.args.element c.in-Ok.base c.in-Ok.next c.in-Ok.ensures.bounds)
    c.loop-number.number c.in-Some.kept c.loop-number.auto.number c.loop-number-test.true
    (sym c.in-Some.is ∙ c.kept.ensures)

pub returns-clause-window : goal.returns-clause-window
returns-clause-window c =
    let windows = c.args.records.now.windows in
    c.loop-number.invariant
    ∙ entries-all windows c.args.element c.in-Ok.base c.in-Ok.next
    (bounds-some windows c.args.element c.in-Ok.base c.in-Ok.next c.in-Ok.ensures.bounds) c.loop-number.number
    c.loop-number-test.false
