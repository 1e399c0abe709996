use Rattle.std.proofs.Common.{List, ◌++◌, string_bytes, ap, ◌∙◌, subst}
use Rattle.std.specs.List.{AllByRecursion}
use Rattle.im_types.specs.Types.{Waiter}
use Rattle.im_dump.proofs.WritingLemmas.{fit_more, fit_none, waits_more, waits_none}
use Rattle.im_dump.specs.{Dump.waits_lines, Fitting.FitsWaiter}
use Rattle.im_dump.proofs.writing.add_waits.Goals as goal

pub loop-waiter-init : goal.loop-waiter-init
loop-waiter-init c =
    let same = c.into_iter-waiter-iterator.ensures.into_iter_gives ∙ c.waiters-waiter-items.ensures in
    record {
      lines = ap (λ left. string_bytes c.args.out.now ++ waits_lines c.args.a left) same;
      fits = subst (λ (ws : List Waiter). AllByRecursion FitsWaiter ws) same;
    }

pub loop-waiter-preserved : goal.loop-waiter-preserved
loop-waiter-preserved c = record {
  lines = waits_more _ _ _ _ _ _ _ c.in-Some.ensures.steps c.in_ok-add_wait.ensures.lines c.loop-waiter.invariant.lines;
  fits = λ after. c.loop-waiter.invariant.fits (fit_more _ _ _ c.in-Some.ensures.steps c.add_wait.ensures.fits after);
}

pub returns-clause-lines : goal.returns-clause-lines
returns-clause-lines c = waits_none _ _ _ _ (c.in-None.ensures.steps.0) c.loop-waiter.invariant.lines

pub returns-clause-fits : goal.returns-clause-fits
returns-clause-fits c = c.loop-waiter.invariant.fits (fit_none _ (c.in-None.ensures.steps.0))
