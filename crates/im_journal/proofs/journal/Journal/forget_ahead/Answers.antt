use Rattle.std.proofs.Common.{List, [], ap, ◌∙◌}
use Rattle.im_types.specs.Types.{Command}
use Rattle.im_journal.proofs.Fitting.{holds_none, known_none}
use Rattle.im_journal.specs.Holding.{journal_state, JournalState, with_ahead}
use Rattle.im_journal.proofs.journal.Journal.forget_ahead.Goals as goal

pub invariant_of-self : goal.invariant_of-self
invariant_of-self c = known_none (journal_state c.self.inside.base c.self.inside.slots c.self.inside.first
    c.self.inside.count
    c.self.inside.room c.self.inside.laid) c.self.invariant c.none.result c.none.ensures

pub returns-clause-state : goal.returns-clause-state
returns-clause-state c =
    let with_these = λ (l : List Command). journal_state c.self.inside.base c.self.inside.slots c.self.inside.first
    c.self.inside.count c.self.inside.room l in
    ap with_these c.none.ensures ∙ ap (λ (j : JournalState). with_ahead [] j) c.self.view_is

pub returns-clause-holds : goal.returns-clause-holds
returns-clause-holds c = holds_none (journal_state c.self.inside.base c.self.inside.slots c.self.inside.first
    c.self.inside.count
    c.self.inside.room c.self.inside.laid) c.args.self.now c.none.result c.self.view_is c.none.ensures
