use Rattle.std.proofs.Common.{◌≡◌, Bool, true, false, [], ◌∷◌, ◌++◌, sym, refl, ap, ◌∙◌, subst}
use Rattle.crossbeam_channel.specs.Claims.{view}
use Rattle.im_pipes.proofs.MessageLemmas.{handed_items, item_next, Knows, knows_handed, mark_next}
use Rattle.im_pipes.specs.Ends.{handed_of, items_of, PipeEnd}
use Rattle.im_pipes.proofs.ends.Outlet.receive.Goals as goal

pub invariant_of-self : goal.invariant_of-self
invariant_of-self g c =
    let open_ : c.self.inside.ended
    ≡ false = ap (λ (e : PipeEnd g.row.T.Denot). e.ended) (c.self.view_is ∙ c.gather.ensures) ∙ c.requires in
    let v = view c.self.inside.pass in let others = c.pop_at.new.self.items in let next = c.in-Some-Some in
    let k = item_next v _
    (items_of (handed_of v.received c.self.inside.held.items)) c.self.inside.held.items others next.field-0 next.item c.self.invariant.1 open_ next.ensures.value next.ensures.items next.field-0-is in (
      c.self.invariant.0,
      subst (λ (b : Bool). Knows v b (items_of (handed_of v.received others)) others) (sym open_)
          (knows_handed v false _ others k),
    )

pub invariant_of-self-in-Some-None : goal.invariant_of-self-in-Some-None
invariant_of-self-in-Some-None g c =
    let open_ : c.self.inside.ended
    ≡ false = ap (λ (e : PipeEnd g.row.T.Denot). e.ended) (c.self.view_is ∙ c.gather.ensures) ∙ c.requires in
    let v = view c.self.inside.pass in let others = c.pop_at.new.self.items in let next = c.in-Some-None in
    let k = mark_next v _
    (items_of (handed_of v.received c.self.inside.held.items)) c.self.inside.held.items others next.field-0 c.self.invariant.1 open_ next.ensures.value next.ensures.items next.field-0-is in
    (c.self.invariant.0, knows_handed v true _ others k)

pub returns-in-Some-Some-clause-contents : goal.returns-in-Some-Some-clause-contents
returns-in-Some-Some-clause-contents g c =
    let open_ : c.self.inside.ended
    ≡ false = ap (λ (e : PipeEnd g.row.T.Denot). e.ended) (c.self.view_is ∙ c.gather.ensures) ∙ c.requires in
    let v = view c.self.inside.pass in let others = c.pop_at.new.self.items in let next = c.in-Some-Some in
    let k = item_next v _
    (items_of (handed_of v.received c.self.inside.held.items)) c.self.inside.held.items others next.field-0 next.item c.self.invariant.1 open_ next.ensures.value next.ensures.items next.field-0-is in (
      handed_items v false _ others k
          ∙ ap (λ (e : PipeEnd g.row.T.Denot). e.items ++ next.item ∷ []) (c.self.view_is ∙ c.gather.ensures),
      open_,
    )

pub returns-in-Some-None-clause-contents : goal.returns-in-Some-None-clause-contents
returns-in-Some-None-clause-contents g c =
    let open_ : c.self.inside.ended
    ≡ false = ap (λ (e : PipeEnd g.row.T.Denot). e.ended) (c.self.view_is ∙ c.gather.ensures) ∙ c.requires in
    let v = view c.self.inside.pass in let others = c.pop_at.new.self.items in let next = c.in-Some-None in
    let k = mark_next v _
    (items_of (handed_of v.received c.self.inside.held.items)) c.self.inside.held.items others next.field-0 c.self.invariant.1 open_ next.ensures.value next.ensures.items next.field-0-is in (
      handed_items v true _ others k
          ∙ ap (λ (e : PipeEnd g.row.T.Denot). e.items) (c.self.view_is ∙ c.gather.ensures),
      refl,
    )
