use Rattle.std.proofs.Common.{◌++◌, string_bytes, ap, ◌∙◌}
use Rattle.im_report.{proofs.ReportLemmas.waiters_more, proofs.ReportLemmas.waiters_none, specs.Report.waiters_text}
use Rattle.im_report.proofs.told.add_waiters.Goals as goal

pub loop-waiter-init : goal.loop-waiter-init
loop-waiter-init c = ap (λ left. string_bytes c.args.out.now ++ waiters_text left) (c.into_iter-waiter-iterator.ensures.into_iter_gives ∙ c.waiters-waiter-items.ensures)

pub loop-waiter-preserved : goal.loop-waiter-preserved
loop-waiter-preserved c = waiters_more _ _ _ _ _ _ c.in-Some.ensures.steps c.in_ok-add_waiter.ensures c.loop-waiter.invariant

pub returns : goal.returns
returns c = waiters_none _ _ _ (c.in-None.ensures.steps.0) c.loop-waiter.invariant
