use Rattle.std.proofs.Common.{refl, ap, ◌∙◌}
use Rattle.im_memory.specs.State.{MemoryState}
use Rattle.im_session.proofs.{CallLemmas.command_goes, KeptLemmas.keeps_on, KeptLemmas.kept_on, KeptLemmas.whole_on}
use Rattle.im_session.proofs.session.Session.serve_kept.Goals as goal

pub invariant_of-self : goal.invariant_of-self
invariant_of-self g c =
    let e = c.serve-answer.ensures in
    let same = ap (λ (m : MemoryState). m.contents) c.of-memory.ensures ∙ c.memory.ensures in
    rw (c.note.ensures, same) (kept_on g.D.Disk c.self.inside.start c.self.inside.calls.sure c.self.inside.calls.doubt
    c.self.inside.engine c.serve-answer.new.self c.self.invariant _ _
    (command_goes g.D.Disk c.self.inside.engine c.serve-answer.new.self c.args.command.now c.serve-answer.result
    e.answered (record { since = e.leaves; now = e.doubt; means = e.means; honest = e.honest }) e.faults))

pub returns-clause-put : goal.returns-clause-put
returns-clause-put g c =
    let same = ap (λ (m : MemoryState). m.contents) c.of-memory.ensures ∙ c.memory.ensures in
    rw (c.note.ensures, same, ← c.self.view_is) refl

pub returns-clause-answered : goal.returns-clause-answered
returns-clause-answered g c = rw (← c.self.view_is) c.serve-answer.ensures.answered

pub returns-clause-keeps : goal.returns-clause-keeps
returns-clause-keeps g c =
    let e = c.serve-answer.ensures in
    let same = ap (λ (m : MemoryState). m.contents) c.of-memory.ensures ∙ c.memory.ensures in
    rw (c.note.ensures, same, ← c.self.view_is) (keeps_on g.D.Disk c.self.inside.start c.self.inside.calls.sure
    c.self.inside.calls.doubt c.self.inside.engine c.serve-answer.new.self c.self.invariant _ _
    (command_goes g.D.Disk c.self.inside.engine c.serve-answer.new.self c.args.command.now c.serve-answer.result
    e.answered (record { since = e.leaves; now = e.doubt; means = e.means; honest = e.honest }) e.faults))

pub returns-clause-leaves : goal.returns-clause-leaves
returns-clause-leaves g c =
    let e = c.serve-answer.ensures in
    let same = ap (λ (m : MemoryState). m.contents) c.of-memory.ensures ∙ c.memory.ensures in
    rw (c.note.ensures, same, ← c.self.view_is) (whole_on g.D.Disk c.self.inside.start c.self.inside.calls.sure
    c.self.inside.calls.doubt c.self.inside.engine c.serve-answer.new.self c.self.invariant _ _
    (command_goes g.D.Disk c.self.inside.engine c.serve-answer.new.self c.args.command.now c.serve-answer.result
    e.answered (record { since = e.leaves; now = e.doubt; means = e.means; honest = e.honest }) e.faults))

pub returns-clause-calls : goal.returns-clause-calls
returns-clause-calls g c = rw (← c.self.view_is) c.serve-answer.ensures.calls
