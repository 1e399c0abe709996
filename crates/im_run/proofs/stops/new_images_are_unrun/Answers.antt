use Rattle.im_run.proofs.LeavingLemmas.{new_accepted, new_unrun}
use Rattle.im_run.proofs.stops.new_images_are_unrun.Goals as goal

pub returns-clause-planned : goal.returns-clause-planned
returns-clause-planned c = new_unrun

pub returns-clause-accepted : goal.returns-clause-accepted
returns-clause-accepted c = new_accepted
