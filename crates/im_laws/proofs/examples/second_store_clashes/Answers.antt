use Rattle.std.proofs.Common.{refl}
use Rattle.im_types.specs.Types.{empty_contents}
use Rattle.im_laws.proofs.examples.second_store_clashes.Goals as goal

pub returns-clause-legal : goal.returns-clause-legal
unfolding empty_contents
returns-clause-legal c = (refl, (refl, (refl, (refl, (refl, (refl, tt))))))

pub returns-clause-clashed : goal.returns-clause-clashed
unfolding empty_contents
returns-clause-clashed c = refl
