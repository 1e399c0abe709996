use Rattle.std.proofs.Common.{refl}
use Rattle.im_types.specs.Types.{empty_contents}
use Rattle.im_laws.proofs.examples.repeat_acts_once.Goals as goal

pub returns-clause-legal : goal.returns-clause-legal
unfolding empty_contents
returns-clause-legal c = (refl, (refl, (refl, (refl, (refl, (refl, (refl, (refl, (refl, tt)))))))))

pub returns-clause-accepts : goal.returns-clause-accepts
unfolding empty_contents
returns-clause-accepts c = refl

pub returns-clause-once : goal.returns-clause-once
unfolding empty_contents
returns-clause-once c = refl
