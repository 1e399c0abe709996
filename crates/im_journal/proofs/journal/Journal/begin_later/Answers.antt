use Rattle.std.proofs.Common.{ap, subst}
use Rattle.im_journal.proofs.Beginning.{holds_later, tail_begins_later}
use Rattle.im_journal.specs.Holding.{IsJournal, journal_state, JournalState}
use Rattle.im_journal.proofs.journal.Journal.begin_later.Goals as goal

pub returns-clause-holds : goal.returns-clause-holds
returns-clause-holds c = λ file held boundary. holds_later c.args.self.now
    (subst IsJournal c.self.view_is c.self.invariant) c.args.first c.requires.later c.requires.counted file held boundary
    (journal_state c.self.inside.base c.self.inside.slots c.args.first c.self.inside.count c.self.inside.room
    c.self.inside.laid)
    (ap (λ (s : JournalState). record s { first = c.args.first }) c.self.view_is)

pub returns-clause-tail : goal.returns-clause-tail
returns-clause-tail c = λ file held boundary. tail_begins_later c.args.self.now
    (subst IsJournal c.self.view_is c.self.invariant) c.args.first c.requires.later c.requires.counted file held boundary
