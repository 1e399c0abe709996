use Rattle.std.proofs.Common.{refl}
use Rattle.im_types.specs.Types.{empty_contents}
use Rattle.im_fulls.proofs.second_store_shows_nothing.Goals as goal

pub returns-clause-legal : goal.returns-clause-legal
unfolding empty_contents
returns-clause-legal c = (refl, (refl, (refl, (refl, (refl, (refl, (refl, (refl, tt))))))))

pub returns-clause-changes : goal.returns-clause-changes
unfolding empty_contents
returns-clause-changes c = refl
