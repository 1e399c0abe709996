use Rattle.im_journal.proofs.Sweeps.{boundaries_swept, no_less, tail_swept}
use Rattle.im_meaning.proofs.stale_gates_may_be_closed.Goals as goal

pub returns-clause-tail : goal.returns-clause-tail
returns-clause-tail c = λ r first known t file written it.
    tail_swept r first file written t.commands t.room it.reads known it.rest.same it.rest.inside it.rest.shut it.rest.stale

pub returns-clause-room : goal.returns-clause-room
returns-clause-room c = λ r first known t file written it.
    no_less r first file written t.commands t.room it.reads known it.rest.same it.rest.inside it.rest.shut it.rest.stale

pub returns-clause-boundaries : goal.returns-clause-boundaries
returns-clause-boundaries c = λ r first known t file written it.
    boundaries_swept r first file written t.commands t.room it.reads known it.rest.same it.rest.inside it.rest.shut
    it.rest.stale
