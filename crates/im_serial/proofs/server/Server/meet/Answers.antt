use Rattle.std.proofs.Common.{ℕ, List, [], ◌∷◌, sym, refl, ap, ◌∙◌, subst, arith}
use Rattle.im_types.specs.Types.{Contents, bounds}
use Rattle.im_serial.proofs.LeftLemmas.{has_some}
use Rattle.im_serial.proofs.OnceLemmas.{breaks_here, found_of, had_of, meets_refl, passed_had, who_is_next}
use Rattle.im_serial.specs.{Had.met, Had.who_next, Once.HasPassed, Serving.seen_by}
use Rattle.im_serial.proofs.server.Server.meet.Goals as goal

pub returns-in-Ok-clause-passed : goal.returns-in-Ok-clause-passed
returns-in-Ok-clause-passed g c = λ w element.
    let was = c.args.self.now in
    let t = c.tell_past in
    let many = c.args.past.now.many.items in
    let held = g.W.Write.contents c.args.out.now in
    let later = g.W.Write.contents t.new.out in
    let left = c.meet-left.result in
    subst (λ (l : List ℕ). HasPassed many (w ∷ []) l t.result (seen_by was held) (seen_by t.new.self later))
    (ap (met many) element ∙ sym c.meet-left.ensures.many)
    (passed_had was.session t.new.self.session held later was.lines t.new.self.lines was.waited.items
    t.new.self.waited.items was.places.marks.items t.new.self.places.marks.items many w (record {
      element = c.args.element;
      number = c.saturating_sub-number.result;
    }) t.ensures.session (has_some many c.args.element w.element left element c.meet-left.ensures.left
    c.if-left-eq0.false)
    (who_is_next was.session.engine.memory many c.args.element w.element _ c.in-Ok.next left
    c.saturating_sub-number.result
    element (ap (λ (x : Contents). bounds x.windows c.args.element) (sym c.memory.ensures) ∙ sym c.window.ensures
    ∙ c.in-Ok.is) c.meet-left.ensures.left (omega (arith, c.saturating_sub-number.ensures)))
    t.ensures.others t.ensures.unmarked t.result t.ensures.pushed t.ensures.mark t.ensures.more)

pub returns-in-Ok-clause-had : goal.returns-in-Ok-clause-had
returns-in-Ok-clause-had g c = had_of c.tell_past.result c.args.self.now.session.engine.memory
    c.args.past.now.many.items
    (record {
      element = c.args.element;
      number = c.saturating_sub-number.result;
    }) c.args.element c.meet-left.result c.meet-left.ensures.left c.if-left-eq0.false c.tell_past.ensures.found

pub returns-in-Ok-clause-found : goal.returns-in-Ok-clause-found
returns-in-Ok-clause-found g c =
    let was = c.args.self.now in
    found_of c.tell_past.result was.session.engine.memory (record {
      element = c.args.element;
      number = c.saturating_sub-number.result;
    }) (who_next was.session.engine.memory c.args.past.now.many.items c.args.element)
    (who_is_next was.session.engine.memory c.args.past.now.many.items c.args.element c.args.element _ c.in-Ok.next
    c.meet-left.result c.saturating_sub-number.result
    refl (ap (λ (x : Contents). bounds x.windows c.args.element) (sym c.memory.ensures) ∙ sym c.window.ensures
    ∙ c.in-Ok.is) c.meet-left.ensures.left (omega (arith, c.saturating_sub-number.ensures)))
    c.tell_past.ensures.found

pub returns-in-Err-clause-passed : goal.returns-in-Err-clause-passed
returns-in-Err-clause-passed g c = λ w element.
    let was = c.args.self.now in
    let old = seen_by was (g.W.Write.contents c.args.out.now)
    in
    let many = c.args.past.now.many.items in
    breaks_here many many (w ∷ []) (w ∷ []) old old (meets_refl many (w ∷ []) old)
