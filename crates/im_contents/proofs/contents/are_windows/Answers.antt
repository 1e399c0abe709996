use Rattle.std.proofs.{Common.refl, Common.arith, lemmas.Option.slice_get_within}
use Rattle.im_types.specs.Types.{IsWindow}
use Rattle.im_contents.proofs.ContentsLemmas.{one_more}
use Rattle.im_contents.proofs.contents.are_windows.Goals as goal

pub loop-element-preserved : goal.loop-element-preserved
loop-element-preserved c =
    one_more IsWindow c.args.windows.now c.loop-element.element c.index-windows-element.result
    c.index-windows-element.is (c.if-not-is_window.ensures.0 refl) c.loop-element.invariant

pub returns : goal.returns
returns c = (
  λ _ element w there. let within =
      slice_get_within c.args.windows.now element w there
      in c.loop-element.invariant element w (omega (arith, within)) there,
  λ _. refl,
)
