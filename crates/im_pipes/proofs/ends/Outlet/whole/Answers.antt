use Rattle.std.proofs.Common.{◌≡◌, Bool, true, List, ◌++◌, sym, ap, ◌∙◌, subst, rules}
use Rattle.crossbeam_channel.specs.Claims.{view}
use Rattle.im_pipes.proofs.MessageLemmas.{begins_items, Knows, whole_items}
use Rattle.im_pipes.proofs.RuleLemmas.{learns, merges}
use Rattle.im_pipes.specs.{declared.rule.PassLog.PassLog, Ends.handed_of, Ends.items_of, Ends.PipeEnd}
use Rattle.im_pipes.proofs.ends.Outlet.whole.Goals as goal

pub absorb-requires-clause-rule : goal.absorb-requires-clause-rule
absorb-requires-clause-rule g c = merges _ _ _ _ (search rules) (search rules)

pub learn_as-requires-clause-rule : goal.learn_as-requires-clause-rule
learn_as-requires-clause-rule g c = learns _ _ (ap (λ (l : PassLog g.row.T.Denot). l.sends) c.absorb.ensures.rule)
    (ap (λ (l : PassLog g.row.T.Denot). l.receives) c.absorb.ensures.rule)

pub returns-clause-begins : goal.returns-clause-begins
returns-clause-begins g c =
    let l = c.learn_as.ensures.rule in let w = view c.self.inside.pass in let held = c.self.inside.held.items in
    let received = ap (λ (e : PipeEnd g.row.T.Denot). e.items) c.self.view_is in
    let sent = ap (λ (e : PipeEnd g.row.T.Denot). e.items) c.finished.view_is in (
      items_of (held ++ l.0),
      ap (λ (xs : List g.row.T.Denot). xs ++ items_of (held ++ l.0)) (sym received)
          ∙ (sym (begins_items (view c.finished.inside.pass) w (view c.absorb.new.pass) c.self.inside.ended
          (items_of (handed_of w.received held)) held l.0 c.self.invariant.1 c.absorb.ensures.rule l.1) ∙ sent),
    )

pub returns-clause-whole : goal.returns-clause-whole
returns-clause-whole g c ended =
    let closed : c.self.inside.ended ≡ true = ap (λ (e : PipeEnd g.row.T.Denot). e.ended) c.self.view_is ∙ ended in
    let v = view c.finished.inside.pass in let w = view c.self.inside.pass in let held = c.self.inside.held.items in
    let items = items_of (handed_of w.received held) in
    let k = subst (λ (b : Bool). Knows w b items held) closed c.self.invariant.1 in
    let l = c.learn_as.ensures.rule in
    sym (ap (λ (e : PipeEnd g.row.T.Denot). e.items) c.self.view_is)
    ∙ (whole_items v w (view c.absorb.new.pass) c.finished.inside.marked items held l.0 c.finished.invariant.1 k c.absorb.ensures.rule l.1
    ∙ ap (λ (e : PipeEnd g.row.T.Denot). e.items) c.finished.view_is)
