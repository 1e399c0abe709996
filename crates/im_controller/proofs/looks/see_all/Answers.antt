use Rattle.std.proofs.Common.{List, sym, ap, ◌∙◌, subst}
use Rattle.im_types.specs.Types.{Line}
use Rattle.im_controller.specs.State.{SharedState}
use mathlib.Core.List.{IsPrefix}
use Rattle.im_controller.proofs.looks.see_all.Goals as goal

pub returns-clause-known : goal.returns-clause-known
returns-clause-known g c =
    subst (λ (ls : List Line). IsPrefix c.args.seen.now ls)
    (sym (c.seen_all.ensures.all ∙ ap (λ (s : SharedState g.row.D.Denot). s.log.trace) c.know.ensures.same))
    c.know.ensures.known

pub returns-clause-end : goal.returns-clause-end
returns-clause-end g c =
    c.seen_all.ensures.end ∙ ap (λ (s : SharedState g.row.D.Denot). s.session.engine.memory) c.know.ensures.same
