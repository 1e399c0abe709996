use Rattle.std.proofs.Common.{sym, ap, ◌∙◌}
use Rattle.im_pages.proofs.SetLemmas.{from-next, from-none, step_in}
use Rattle.im_checkpoint.specs.Step.{pages_step, PagesLeft}
use Rattle.im_checkpoint.proofs.steps.next_left.Goals as goal

pub returns-in-Some-clause-step : goal.returns-in-Some-clause-step
returns-in-Some-clause-step c = λ count.
    let it = c.in-Some.ensures in
    ap (PagesLeft count) (step_in c.args.left.now c.in-Some.page it.inside it.there)
    ∙ sym (ap (pages_step count) (from-next c.args.left.now c.args.from c.in-Some.page it))

pub returns-in-None-clause-step : goal.returns-in-None-clause-step
returns-in-None-clause-step c = λ count. sym
    (ap (pages_step count) (from-none c.args.left.now c.args.from c.in-None.ensures))
