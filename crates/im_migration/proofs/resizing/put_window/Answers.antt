use Rattle.std.proofs.Common.{◌≡◌, sym, ap, ◌∙◌, subst}
use Rattle.im_types.specs.Types.{Window, IsWindow}
use Rattle.im_migration.{proofs.OtherSizes.is-window, specs.Resizing.window_at}
use Rattle.im_migration.proofs.resizing.put_window.Goals as goal

pub put_window-requires-clause-window : goal.put_window-requires-clause-window
put_window-requires-clause-window c =
    let windows = c.args.memory.now.contents.windows in
    let base = c.base.ensures ∙ ap (λ (w : Window). w.base) c.window_of-window.ensures in
    let kept = c.kept.ensures.entries ∙ ap (λ (w : Window). w.kept) c.window_of-window.ensures in
    let w : Window = record { base = c.base.result; kept = c.kept.result.now } in
    let same : window_at windows c.args.element ≡ w = λ i. record { base = (sym base) i; kept = (sym kept) i } in
    subst IsWindow same (is-window windows c.cells-cells.ensures.memory.windows c.args.element)
