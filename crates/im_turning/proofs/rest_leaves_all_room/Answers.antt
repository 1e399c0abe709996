use Rattle.im_turning.proofs.TurningLemmas.{all_room}

pub returns : Rattle.im_turning.proofs.rest_leaves_all_room.Goals.returns
returns c = record { room = all_room }
