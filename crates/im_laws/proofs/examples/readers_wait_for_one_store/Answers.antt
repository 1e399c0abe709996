use Rattle.std.proofs.Common.{refl}
use Rattle.im_types.specs.Types.{empty_contents}
use Rattle.im_laws.proofs.examples.readers_wait_for_one_store.Goals as goal

pub returns-clause-legal : goal.returns-clause-legal
unfolding empty_contents
returns-clause-legal c = (refl, (refl, (refl, (refl, (refl, (refl, (refl, (refl, tt))))))))

pub returns-clause-in_order : goal.returns-clause-in_order
unfolding empty_contents
returns-clause-in_order c = refl

pub returns-clause-full : goal.returns-clause-full
unfolding empty_contents
returns-clause-full c = refl
