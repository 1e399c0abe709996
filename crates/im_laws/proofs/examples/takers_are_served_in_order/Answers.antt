use Rattle.std.proofs.Common.{refl}
use Rattle.im_types.specs.Types.{empty_contents}
use Rattle.im_laws.proofs.examples.takers_are_served_in_order.Goals as goal

pub returns-clause-legal : goal.returns-clause-legal
unfolding empty_contents
returns-clause-legal c = (refl, (refl, (refl, (refl, (refl, (refl, (refl, (refl, (refl, (refl, (refl, tt)))))))))))

pub returns-clause-emptied : goal.returns-clause-emptied
unfolding empty_contents
returns-clause-emptied c = refl
