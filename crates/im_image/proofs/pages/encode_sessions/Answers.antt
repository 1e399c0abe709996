use Rattle.std.proofs.Common.{◌≡◌, subst, arith}
use Rattle.im_types.specs.Types.{new_window, layout_in_use, session_bytes, FitsWindow}
use Rattle.im_image.proofs.Encoding.{Spelled, spelled-all, spelled-more}
use Rattle.im_image.proofs.pages.encode_sessions.Goals as goal

pub loop-place-preserved : goal.loop-place-preserved
loop-place-preserved c = (
  c.put_element.array_long,
  spelled-more 4096 1 (session_bytes layout_in_use)
      (FitsWindow layout_in_use) new_window c.args.records.now.windows c.args.i c.loop-place.page c.put_element.new.page
      c.loop-place.place c.loop-place-test.true c.loop-place.invariant.1 c.put_element.ensures.here
      c.put_element.ensures.others c.put_element.ensures.fits,
)

pub returns : goal.returns
returns c =
    let end : c.loop-place.place ≡ 1 = omega arith in
    spelled-all 4096 1 (session_bytes layout_in_use)
    (FitsWindow layout_in_use) new_window c.args.records.now.windows c.args.i c.loop-place.page c.loop-place.invariant.0
    (subst (λ n. Spelled 4096 1 (session_bytes layout_in_use)
    (FitsWindow layout_in_use) new_window c.args.records.now.windows c.args.i c.loop-place.page n) end
    c.loop-place.invariant.1)
