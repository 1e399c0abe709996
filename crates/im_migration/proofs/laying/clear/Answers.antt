use Rattle.std.proofs.Common.{◌∙◌, arith}
use Rattle.im_migration.proofs.Blank.{blank_then}

pub loop-page-preserved : Rattle.im_migration.proofs.laying.clear.Goals.loop-page-preserved
loop-page-preserved g c = record {
  near = omega (arith, c.loop-page-test.true);
  few = c.loop-page.invariant.few;
  whole = c.loop-page.invariant.whole;
  honest = λ h. c.loop-page.invariant.honest (c.clear_page.ensures.runs.honest h);
  cleared =
      λ h. c.in_ok-clear_page.ensures.cleared h (c.loop-page.invariant.cleared (c.clear_page.ensures.runs.honest h));
  size = λ h. c.in_ok-clear_page.ensures.size h;
  blank = λ h.
      blank_then g.N.Disk c.args.new.now c.loop-page.new c.clear_page.new.new
      (c.loop-page.invariant.blank (c.clear_page.ensures.runs.honest h)) (c.clear_page.ensures.runs.kept h);
  failures = c.in_ok-clear_page.ensures.runs.failures ∙ c.loop-page.invariant.failures;
}
