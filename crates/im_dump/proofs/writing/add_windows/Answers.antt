use Rattle.std.proofs.Common.{arith}
use Rattle.im_text.proofs.TextLemmas.{written_more, written_none}
use Rattle.im_dump.proofs.WritingLemmas.{fit_windows, one_window_more}
use Rattle.im_dump.proofs.writing.add_windows.Goals as goal

pub loop-element-init : goal.loop-element-init
loop-element-init c = record { lines = written_none _ _; fits = λ k lt. absurd (omega arith) }

pub loop-element-preserved : goal.loop-element-preserved
loop-element-preserved c = record {
  lines = written_more _ _ _ _ _ c.loop-element.invariant.lines c.in_ok-add_window.ensures.lines;
  fits = one_window_more c.args.memory.now.contents c.loop-element.element c.loop-element.invariant.fits
      c.in_ok-add_window.ensures.fits;
}

pub returns-clause-fits : goal.returns-clause-fits
returns-clause-fits c = fit_windows c.args.memory.now.contents c.loop-element.element (omega (
  arith,
  c.elements-element-end.ensures.count,
)) c.loop-element.invariant.fits
