use Rattle.std.proofs.Common.{◌≡◌, ℕ, ◌+◌, ◌<◌, List, length, get_or, set, sym, refl, ap, ◌∙◌, subst, arith}
use Rattle.{im_types.specs.Types.Window, im_types.specs.Types.new_window, im_memory.specs.Restoring.Parts}
use Rattle.im_image.proofs.Restored.{Begun, begun-all, begun-more, parts-same}
use Rattle.im_migration.{proofs.Fitted.fitted-below, proofs.Fitted.length-fitted, specs.Resizing.fitted}
use Rattle.im_migration.proofs.resizing.put_windows.Goals as goal

pub loop-element-init : goal.loop-element-init
loop-element-init c = (
  refl,
  refl,
  record {
    many = c.requires ∙ sym (length-fitted new_window c.args.elements c.args.memory.now.contents.windows);
    first = λ a lt. absurd (omega (arith, lt));
  },
)

pub put_window-requires : goal.put_window-requires
put_window-requires c = omega (
  arith,
  c.loop-element-test.true,
  c.loop-element.auto.element-end,
  c.loop-element.invariant.2.many,
  length-fitted new_window c.args.elements c.args.memory.now.contents.windows,
)

pub loop-element-preserved : goal.loop-element-preserved
loop-element-preserved c =
    let windows = fitted new_window c.args.elements c.args.memory.now.contents.windows in
    let was = c.loop-element.restoring in
    let i = c.loop-element.element in
    let inside : i < c.args.elements = omega (arith, c.loop-element-test.true, c.loop-element.auto.element-end) in
    let more =
    begun-more new_window windows was.windows i
    (omega (arith, inside, length-fitted new_window c.args.elements c.args.memory.now.contents.windows))
    c.loop-element.invariant.2 in
    let put : c.put_window.new.restoring.windows ≡ set was.windows i (get_or windows i new_window) =
    ap (λ (p : Parts). p.windows) c.put_window.ensures
    ∙ ap (λ (w : Window). set was.windows i w)
    (sym (fitted-below new_window c.args.elements c.args.memory.now.contents.windows i inside)) in (
      ap (λ (p : Parts). p.cells) c.put_window.ensures ∙ c.loop-element.invariant.0,
      ap (λ (p : Parts). p.lists) c.put_window.ensures ∙ c.loop-element.invariant.1,
      subst (λ (now : List Window). Begun new_window windows now (i + 1)) (sym put) more,
    )

pub returns : goal.returns
returns c =
    let windows = fitted new_window c.args.elements c.args.memory.now.contents.windows in
    let end : c.loop-element.element ≡ length windows =
    omega (
      arith,
      c.loop-element-test.false,
      c.loop-element.auto.element-end,
      length-fitted new_window c.args.elements
          c.args.memory.now.contents.windows,
    ) in
    parts-same c.loop-element.restoring _ c.loop-element.invariant.0 c.loop-element.invariant.1
    (begun-all new_window windows c.loop-element.restoring.windows
    (subst (λ (i : ℕ). Begun new_window windows c.loop-element.restoring.windows i) end c.loop-element.invariant.2))
