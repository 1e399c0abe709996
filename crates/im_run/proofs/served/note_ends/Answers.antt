use Rattle.std.proofs.Common.{[], ◌∷◌, ◌++◌, sym, ap, ◌∙◌}
use Rattle.im_run.proofs.{AloneLemmas.quiet_next, DoingLemmas.noted_step, DoingLemmas.one_more}
use Rattle.im_run.specs.Doing.{elements_at_end}
use Rattle.im_run.proofs.served.note_ends.Goals as goal

pub take-requires : goal.take-requires
take-requires g c =
    let d = c.in-Some.done in
    (c.next_element-element.ensures d.deeds.port.element (elements_at_end c.next.new.self.rest.items)
    (sym c.loop-done.invariant.1.0 ∙ ap elements_at_end c.in-Some.ensures.steps.0)).0

pub loop-done-preserved : goal.loop-done-preserved
loop-done-preserved g c =
    let it = c.loop-done.invariant in
    let d = c.in-Some.done in
    let left = c.next.new.self.rest.items in
    let was = c.loop-done.notes in
    let now = c.take.new.self in
    let next = c.next_element-element.ensures d.deeds.port.element (elements_at_end left)
    (sym it.1.0 ∙ ap elements_at_end c.in-Some.ensures.steps.0) in (
      λ none. it.0 (c.take.ensures.noted.none none),
      (
        sym next.1,
        (
          it.1.1.0 ++ d ∷ [],
          (
            one_more it.1.1.0 c.loop-done.done-iterator.rest.items c.args.all.items left d it.1.1.1.0
                c.in-Some.ensures.steps.0,
            (
              λ trace seen. noted_step trace it.1.1.0 d was.ports.items now.ports.items was.did.items now.did.items
                  was.refused now.refused (it.1.1.1.1.0 trace) c.take.ensures.noted seen,
              λ start quiet. c.take.ensures.quiet
                  (quiet_next it.1.1.0 c.loop-done.done-iterator.rest.items c.args.all.items left d it.1.1.1.0
                  c.in-Some.ensures.steps.0 quiet) (it.1.1.1.1.1 start quiet),
            ),
          ),
        ),
      ),
    )
