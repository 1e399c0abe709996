use Rattle.std.proofs.Common.{refl, ap, ◌∙◌}
use Rattle.arrayvec.specs.ArrayVec.{ArrayVec}
use Rattle.{im_types.specs.Types.Command, im_memory.specs.State.MemoryState}
use Rattle.im_session.proofs.{CallLemmas.commands_go, KeptLemmas.keeps_on, KeptLemmas.kept_on, KeptLemmas.whole_on}
use Rattle.im_session.proofs.session.Session.serve_commands_kept.Goals as goal

pub invariant_of-self : goal.invariant_of-self
invariant_of-self g c =
    let memory = ap (λ (m : MemoryState). m.contents) c.of.ensures ∙ c.memory.ensures in
    let places = c.of-2.ensures ∙ c.places-places.ensures.places in
    let before = c.of-3.ensures ∙ c.failed-failed.ensures.failed in
    let them = ap (λ (v : ArrayVec Command). v.items) c.of-4.ensures in
    rw (c.note_all.ensures, memory, places, before, them, c.failed-failed-2.ensures.failed) (kept_on g.D.Disk
    c.self.inside.start c.self.inside.calls.sure c.self.inside.calls.doubt c.self.inside.engine
    c.serve_commands.new.self c.self.invariant _ _
    (commands_go g.D.Disk c.self.inside.engine c.serve_commands.new.self _ c.serve_commands.new.served.items
    c.serve_commands.ensures.answered c.serve_commands.ensures.runs))

pub returns-clause-put : goal.returns-clause-put
returns-clause-put g c =
    let memory = ap (λ (m : MemoryState). m.contents) c.of.ensures ∙ c.memory.ensures in
    let places = c.of-2.ensures ∙ c.places-places.ensures.places in
    let before = c.of-3.ensures ∙ c.failed-failed.ensures.failed in
    let them = ap (λ (v : ArrayVec Command). v.items) c.of-4.ensures in
    rw (c.note_all.ensures, memory, places, before, them, c.failed-failed-2.ensures.failed, ← c.self.view_is) refl

pub returns-clause-answered : goal.returns-clause-answered
returns-clause-answered g c = rw (← c.self.view_is) c.serve_commands.ensures.answered

pub returns-clause-begins : goal.returns-clause-begins
returns-clause-begins g c = rw (← c.self.view_is) c.serve_commands.ensures.begins

pub returns-clause-keeps : goal.returns-clause-keeps
returns-clause-keeps g c =
    let memory = ap (λ (m : MemoryState). m.contents) c.of.ensures ∙ c.memory.ensures in
    let places = c.of-2.ensures ∙ c.places-places.ensures.places in
    let before = c.of-3.ensures ∙ c.failed-failed.ensures.failed in
    let them = ap (λ (v : ArrayVec Command). v.items) c.of-4.ensures in
    rw (c.note_all.ensures, memory, places, before, them, c.failed-failed-2.ensures.failed, ← c.self.view_is)
    (keeps_on g.D.Disk c.self.inside.start c.self.inside.calls.sure c.self.inside.calls.doubt c.self.inside.engine
    c.serve_commands.new.self c.self.invariant _ _
    (commands_go g.D.Disk c.self.inside.engine c.serve_commands.new.self _ c.serve_commands.new.served.items
    c.serve_commands.ensures.answered c.serve_commands.ensures.runs))

pub returns-clause-leaves : goal.returns-clause-leaves
returns-clause-leaves g c =
    let memory = ap (λ (m : MemoryState). m.contents) c.of.ensures ∙ c.memory.ensures in
    let places = c.of-2.ensures ∙ c.places-places.ensures.places in
    let before = c.of-3.ensures ∙ c.failed-failed.ensures.failed in
    let them = ap (λ (v : ArrayVec Command). v.items) c.of-4.ensures in
    rw (c.note_all.ensures, memory, places, before, them, c.failed-failed-2.ensures.failed, ← c.self.view_is)
    (whole_on g.D.Disk c.self.inside.start c.self.inside.calls.sure c.self.inside.calls.doubt c.self.inside.engine
    c.serve_commands.new.self c.self.invariant _ _
    (commands_go g.D.Disk c.self.inside.engine c.serve_commands.new.self _ c.serve_commands.new.served.items
    c.serve_commands.ensures.answered c.serve_commands.ensures.runs))

pub returns-clause-few : goal.returns-clause-few
returns-clause-few g c = rw (← c.self.view_is) (λ honest. (c.serve_commands.ensures.runs.calls honest).most)
