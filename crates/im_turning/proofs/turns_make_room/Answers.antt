use Rattle.im_turning.proofs.TurningLemmas.{enough, few}
use Rattle.im_turning.proofs.turns_make_room.Goals as goal

pub returns-clause-room : goal.returns-clause-room
returns-clause-room c = enough

pub returns-clause-few : goal.returns-clause-few
returns-clause-few c = few
