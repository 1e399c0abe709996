use Rattle.std.proofs.Common.{◌++◌, string_bytes, codes, ap, ◌∙◌}
use Rattle.im_report.proofs.ReportLemmas.{objects_more, objects_none}
use Rattle.im_report.specs.Report.{mark_of, waiter_objects}
use Rattle.im_report.proofs.told.add_waiter_objects.Goals as goal

pub loop-waiter-init : goal.loop-waiter-init
loop-waiter-init c = ap (λ left. string_bytes c.args.out.now ++ waiter_objects (codes "[") left)
    (c.into_iter-waiter-iterator.ensures.into_iter_gives ∙ c.waiters-waiter-items.ensures)

pub loop-waiter-preserved : goal.loop-waiter-preserved
loop-waiter-preserved c = objects_more (mark_of c.loop-waiter.is_first) _ _ _ _ _ _ c.in-Some.ensures.steps c.in_ok-add_marked.ensures
    c.loop-waiter.invariant

pub returns : goal.returns
returns c = objects_none _ _ _ _ (c.in-None.ensures.steps.0) c.loop-waiter.invariant
