use Rattle.std.proofs.Common.{ℕ, List, [], ap, ◌∙◌, subst, inl}
use Rattle.im_types.specs.Types.{Contents}
use Rattle.im_serial.proofs.OnceLemmas.{breaks_here, either_way, meets_refl, shown_by}
use Rattle.im_serial.specs.{Asked.wanted_of, Fitting.FitsScript, Had.numbers_had, Serving.seen_by}
use Rattle.im_serial.specs.Once.{Breaks, MakesBlocks, Meets, Names}
use Rattle.im_serial.proofs.server.Server.show_past.Goals as goal

pub returns-in-Err-clause-shown : goal.returns-in-Err-clause-shown
returns-in-Err-clause-shown g c =
    let was = c.args.self.now in
    let old = seen_by was (g.W.Write.contents c.args.out.now)
    in
    let many = numbers_had was.session.engine.memory in
    let all = wanted_of c.args.script.now in
    breaks_here many many all all old old (meets_refl many all old)

pub returns-in-Err-new-clause-shown : goal.returns-in-Err-new-clause-shown
returns-in-Err-new-clause-shown g c =
    let was = c.args.self.now in
    let old = seen_by was (g.W.Write.contents c.args.out.now)
    in
    let many = numbers_had was.session.engine.memory in
    let all = wanted_of c.args.script.now in
    breaks_here many many all all old old (meets_refl many all old)

pub returns-in-Ok-meet_all-clause-shown : goal.returns-in-Ok-meet_all-clause-shown
returns-in-Ok-meet_all-clause-shown g c =
    let was = c.args.self.now in
    let old = seen_by was (g.W.Write.contents c.args.out.now)
    in
    let s = c.meet_all.new.self in
    let mid = seen_by s (g.W.Write.contents c.meet_all.new.out) in
    let past = c.meet_all.new.past in
    let all = wanted_of c.args.script.now in
    let many = c.in-Ok-new.ensures.many ∙ ap numbers_had c.memory-2.ensures in
    shown_by c.flush.result all was.bases.items s.bases.items past.many.items past.end old s.session
    (g.W.Write.contents c.meet_all.new.out) (g.W.Write.contents c.flush.new.out) s.lines c.flush.new.self s.waited.items
    s.places.marks.items c.meet_all.ensures.session
    (subst (λ (l : List ℕ). Meets l all past.many.items [] old mid) many c.in-Ok-meet_all.ensures.passed)
    (subst (λ (l : List ℕ). Names l 0 all past.many.items past.end [] was.bases.items s.bases.items) many (subst (λ (n :
    ℕ). Names c.in-Ok-new.past.many.items n all past.many.items past.end [] was.bases.items s.bases.items)
    c.in-Ok-new.ensures.end c.in-Ok-meet_all.ensures.names))
    (subst (λ (l : List ℕ). MakesBlocks was.session.engine.memory l all past.many.items []) many
    c.in-Ok-meet_all.ensures.made)
    c.flush.ensures.on c.flush.ensures.pending c.flush.ensures.works

pub returns-clause-shown : goal.returns-clause-shown
returns-clause-shown g c =
    let was = c.args.self.now in
    let old = seen_by was (g.W.Write.contents c.args.out.now)
    in
    let s = c.meet_all.new.self in
    let mid = seen_by s (g.W.Write.contents c.meet_all.new.out) in
    let many = c.in-Ok-new.ensures.many ∙ ap numbers_had c.memory-2.ensures in
    subst (λ (l : List ℕ). Breaks l (wanted_of c.args.script.now) old mid) many c.in-Err-meet_all.ensures.passed

pub returns-in-Err-new-clause-fit : goal.returns-in-Err-new-clause-fit
returns-in-Err-new-clause-fit g c = inl (subst (λ (m : Contents). FitsScript m (wanted_of c.args.script.now))
    c.memory.ensures (c.in-Ok.ensures.fits, c.in-Ok.ensures.within))

pub returns-in-Ok-meet_all-clause-fit : goal.returns-in-Ok-meet_all-clause-fit
returns-in-Ok-meet_all-clause-fit g c = either_way c.flush.result _ _ (subst (λ (m : Contents). FitsScript m (wanted_of
    c.args.script.now)) c.memory.ensures (c.in-Ok.ensures.fits, c.in-Ok.ensures.within))

pub returns-clause-fit : goal.returns-clause-fit
returns-clause-fit g c = inl (subst (λ (m : Contents). FitsScript m (wanted_of c.args.script.now)) c.memory.ensures (
  c.in-Ok.ensures.fits,
  c.in-Ok.ensures.within,
))
