use Rattle.im_dialogue.proofs.AlikeLemmas.{answered_alike, ended_alike, put_alike}
use Rattle.im_dialogue.proofs.alike.same_lines_are_answered_alike.Goals as goal

pub returns-clause-answers : goal.returns-clause-answers
returns-clause-answers g c = λ m count one other alike.
    answered_alike g.D.Disk g.E.Disk m count c.files_mean_one_thing.ensures.memory one other alike

pub returns-clause-put : goal.returns-clause-put
returns-clause-put g c = λ m count one other same.
    put_alike g.D.Disk g.E.Disk m count c.files_mean_one_thing.ensures.memory one other same

pub returns-clause-means : goal.returns-clause-means
returns-clause-means g c = λ m count one other alike.
    ended_alike g.D.Disk g.E.Disk m count c.files_mean_one_thing.ensures.memory one other alike
