use Rattle.im_laws.proofs.GroupLemmas.{puts-accepted, puts-after, puts-counted, puts-room}

pub returns : Rattle.im_laws.proofs.groups.groups_are_runs.Goals.returns
returns c = record { memory = puts-after; accepted = puts-accepted; count = puts-counted; room = puts-room }
