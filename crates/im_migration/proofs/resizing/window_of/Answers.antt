use Rattle.std.proofs.Common.{◌≡◌, ◌-◌, length, take, sym, ap, ◌∙◌, arith, length-take}
use Rattle.im_types.specs.Types.{Window}
use Rattle.im_image.proofs.Encoding.{bounds-none, bounds-some, entries-all, entry-more, entry-there, past-new}
use Rattle.im_image.proofs.Encoding.{with_entry}
use Rattle.im_migration.{proofs.OtherSizes.is-window, specs.Resizing.window_at}
use Rattle.im_migration.proofs.resizing.window_of.Goals as goal

pub returns-in_default : goal.returns-in_default
returns-in_default c =
    c.new.ensures ∙ past-new c.args.memory.now.contents.windows c.args.element
    (bounds-none c.args.memory.now.contents.windows c.args.element c.in_default.field-0 c.in_default.ensures)

pub unreachable-requires : goal.unreachable-requires
unreachable-requires c =
    let windows = c.args.memory.now.contents.windows in
    entry-there windows c.args.element c.in-Ok.base c.in-Ok.next
    (bounds-some windows c.args.element c.in-Ok.base c.in-Ok.next c.in-Ok.ensures)
    c.loop-number.number c.loop-number.auto.number c.loop-number-test.true (sym c.in_default-kept.is ∙ c.kept.ensures)

pub push-requires : goal.push-requires
push-requires c =
    let windows = c.args.memory.now.contents.windows in
    let has = bounds-some windows c.args.element c.in-Ok.base c.in-Ok.next c.in-Ok.ensures in
    let own : Window = window_at windows c.args.element in
    let kept : length c.loop-number.window.kept ≡ length (take (c.loop-number.number - c.in-Ok.base) own.kept)
    = ap (λ (w : Window). length w.kept) c.loop-number.invariant in
    let few = (is-window windows c.cells-cells.ensures.memory.windows c.args.element).few in
    omega (
      arith,
      kept,
      length-take (c.loop-number.number - c.in-Ok.base) own.kept,
      has.next_is,
      few,
      c.loop-number.auto.number,
      c.loop-number-test.true,
    )

pub loop-number-preserved : goal.loop-number-preserved
loop-number-preserved c =
    let windows = c.args.memory.now.contents.windows in
    c.push.ensures
    ∙ ap (with_entry c.in-Some.kept) c.loop-number.invariant
    ∙ entry-more windows c.args.element c.in-Ok.base c.in-Ok.next
    (bounds-some windows c.args.element c.in-Ok.base c.in-Ok.next c.in-Ok.ensures)
    c.loop-number.number c.in-Some.kept c.loop-number.auto.number c.loop-number-test.true
    (sym c.in-Some.is ∙ c.kept.ensures)

pub returns : goal.returns
returns c =
    let windows = c.args.memory.now.contents.windows in
    c.loop-number.invariant
    ∙ entries-all windows c.args.element c.in-Ok.base c.in-Ok.next
    (bounds-some windows c.args.element c.in-Ok.base c.in-Ok.next c.in-Ok.ensures) c.loop-number.number
    c.loop-number-test.false
