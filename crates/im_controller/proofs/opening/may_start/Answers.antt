use Rattle.im_plans.proofs.Laws.{starts-go_on}
use Rattle.im_controller.proofs.opening.may_start.Goals as goal

pub returns-clause-starts : goal.returns-clause-starts
returns-clause-starts c = λ is. starts-go_on _ _ (record {
  agrees = c.elements-elements.ensures.memory.agrees;
  is_plan = c.requests-requests.ensures.plan;
  fits = c.fits.ensures.0 is;
})

pub returns-then-asked-clause-starts : goal.returns-then-asked-clause-starts
returns-then-asked-clause-starts c = λ is. record {
  agrees = c.elements-elements.ensures.memory.agrees;
  is_plan = c.requests-requests.ensures.plan;
  under_way = c.is_under_way.ensures.0 is;
}
