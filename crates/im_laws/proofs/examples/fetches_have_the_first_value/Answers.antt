use Rattle.std.proofs.Common.{refl}
use Rattle.im_types.specs.Types.{empty_contents}
use Rattle.im_laws.proofs.examples.fetches_have_the_first_value.Goals as goal

pub returns-clause-legal : goal.returns-clause-legal
unfolding empty_contents
returns-clause-legal c = (refl, (refl, (refl, (refl, (refl, (refl, tt))))))

pub returns-clause-law : goal.returns-clause-law
unfolding empty_contents
returns-clause-law c = refl
