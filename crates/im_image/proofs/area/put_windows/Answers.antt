use Rattle.std.proofs.Common.{◌≡◌, length, subst, arith}
use Rattle.im_types.specs.Types.{new_window}
use Rattle.im_image.proofs.Restored.{Begun, begun-all, parts-same}

pub returns : Rattle.im_image.proofs.area.put_windows.Goals.returns
returns c =
    let windows = c.args.windows.now in
    let end : c.loop-element.element ≡ length windows = omega (arith, c.requires.count) in
    parts-same c.loop-element.restoring _ c.loop-element.invariant.0 c.loop-element.invariant.1
    (begun-all new_window windows c.loop-element.restoring.windows
    (subst (λ i. Begun new_window windows c.loop-element.restoring.windows i) end c.loop-element.invariant.2))
