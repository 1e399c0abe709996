use Rattle.std.proofs.Common.{length, refl, ap, ◌∙◌, arith, take_all}
use Rattle.arrayvec.specs.ArrayVec.{ArrayVec}
use Rattle.{im_types.specs.Types.Command, im_memory.specs.State.MemoryState, im_engine.proofs.Advancing.advanced_long}
use Rattle.im_session.proofs.{CallLemmas.advance_goes, KeptLemmas.keeps_on, KeptLemmas.kept_on, KeptLemmas.whole_on}
use Rattle.im_session.proofs.session.Session.advance_kept.Goals as goal

pub invariant_of-self : goal.invariant_of-self
invariant_of-self g c =
    let memory = ap (λ (m : MemoryState). m.contents) c.of.ensures ∙ c.memory.ensures in
    let places = c.of-2.ensures ∙ c.places-places.ensures.places in
    let before = c.of-3.ensures ∙ c.failed-failed.ensures.failed in
    let them = ap (λ (v : ArrayVec Command). v.items) c.of-4.ensures ∙ c.ahead.ensures in
    let long = advanced_long c.self.inside.engine c.args.next.now.items c.advance-result.result
    c.advance-result.new.served.items c.advance-result.new.self c.advance-result.ensures.answered in
    let all = take_all (length c.advance-result.new.served.items) c.self.inside.engine.ahead (omega (arith, long)) in
    rw (c.note_all.ensures, memory, places, before, them, all, c.failed-has_failed.ensures.failed) (kept_on g.D.Disk
    c.self.inside.start c.self.inside.calls.sure c.self.inside.calls.doubt c.self.inside.engine
    c.advance-result.new.self c.self.invariant _ _
    (advance_goes g.D.Disk c.self.inside.engine c.advance-result.new.self c.args.next.now.items c.advance-result.result
    c.advance-result.new.served.items _ c.advance-result.ensures.answered c.advance-result.ensures.runs))

pub returns-clause-put : goal.returns-clause-put
returns-clause-put g c =
    let memory = ap (λ (m : MemoryState). m.contents) c.of.ensures ∙ c.memory.ensures in
    let places = c.of-2.ensures ∙ c.places-places.ensures.places in
    let before = c.of-3.ensures ∙ c.failed-failed.ensures.failed in
    let them = ap (λ (v : ArrayVec Command). v.items) c.of-4.ensures ∙ c.ahead.ensures in
    let long = advanced_long c.self.inside.engine c.args.next.now.items c.advance-result.result
    c.advance-result.new.served.items c.advance-result.new.self c.advance-result.ensures.answered in
    let all = take_all (length c.advance-result.new.served.items) c.self.inside.engine.ahead (omega (arith, long)) in
    rw (c.note_all.ensures, memory, places, before, them, all, c.failed-has_failed.ensures.failed, ← c.self.view_is)
    refl

pub returns-clause-answered : goal.returns-clause-answered
returns-clause-answered g c = rw (← c.self.view_is) c.advance-result.ensures.answered

pub returns-clause-takes : goal.returns-clause-takes
returns-clause-takes g c = rw (← c.self.view_is) c.advance-result.ensures.takes

pub returns-clause-keeps : goal.returns-clause-keeps
returns-clause-keeps g c =
    let memory = ap (λ (m : MemoryState). m.contents) c.of.ensures ∙ c.memory.ensures in
    let places = c.of-2.ensures ∙ c.places-places.ensures.places in
    let before = c.of-3.ensures ∙ c.failed-failed.ensures.failed in
    let them = ap (λ (v : ArrayVec Command). v.items) c.of-4.ensures ∙ c.ahead.ensures in
    let long = advanced_long c.self.inside.engine c.args.next.now.items c.advance-result.result
    c.advance-result.new.served.items c.advance-result.new.self c.advance-result.ensures.answered in
    let all = take_all (length c.advance-result.new.served.items) c.self.inside.engine.ahead (omega (arith, long)) in
    rw (c.note_all.ensures, memory, places, before, them, all, c.failed-has_failed.ensures.failed, ← c.self.view_is)
    (keeps_on g.D.Disk c.self.inside.start c.self.inside.calls.sure c.self.inside.calls.doubt c.self.inside.engine
    c.advance-result.new.self c.self.invariant _ _
    (advance_goes g.D.Disk c.self.inside.engine c.advance-result.new.self c.args.next.now.items c.advance-result.result
    c.advance-result.new.served.items _ c.advance-result.ensures.answered c.advance-result.ensures.runs))

pub returns-clause-leaves : goal.returns-clause-leaves
returns-clause-leaves g c =
    let memory = ap (λ (m : MemoryState). m.contents) c.of.ensures ∙ c.memory.ensures in
    let places = c.of-2.ensures ∙ c.places-places.ensures.places in
    let before = c.of-3.ensures ∙ c.failed-failed.ensures.failed in
    let them = ap (λ (v : ArrayVec Command). v.items) c.of-4.ensures ∙ c.ahead.ensures in
    let long = advanced_long c.self.inside.engine c.args.next.now.items c.advance-result.result
    c.advance-result.new.served.items c.advance-result.new.self c.advance-result.ensures.answered in
    let all = take_all (length c.advance-result.new.served.items) c.self.inside.engine.ahead (omega (arith, long)) in
    rw (c.note_all.ensures, memory, places, before, them, all, c.failed-has_failed.ensures.failed, ← c.self.view_is)
    (whole_on g.D.Disk c.self.inside.start c.self.inside.calls.sure c.self.inside.calls.doubt c.self.inside.engine
    c.advance-result.new.self c.self.invariant _ _
    (advance_goes g.D.Disk c.self.inside.engine c.advance-result.new.self c.args.next.now.items c.advance-result.result
    c.advance-result.new.served.items _ c.advance-result.ensures.answered c.advance-result.ensures.runs))

pub returns-clause-few : goal.returns-clause-few
returns-clause-few g c = rw (← c.self.view_is) c.advance-result.ensures.runs.few
