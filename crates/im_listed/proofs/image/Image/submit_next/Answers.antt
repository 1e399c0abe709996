use Rattle.std.proofs.Common.{◌≡◌, List, [], ◌∷◌, ◌++◌, sym, ap, ◌∙◌, subst, rules}
use Rattle.{im_types.specs.Types.Asks, im_types.specs.Types.Contents, im_asks.specs.Behind.IsPlaceUpTo}
use Rattle.im_front.specs.{declared.AskedCommand.AskedCommand, Lists.with_ticket}
use Rattle.im_listed.proofs.OrderLemmas.{append_again, AreFirst, first_of_more, with_asked}
use Rattle.im_listed.specs.{Asking.asked_too, Asking.confirmed_before, Image.ImageState}
use Rattle.im_listed.proofs.image.Image.submit_next.Goals as goal

pub invariant_of-self : goal.invariant_of-self
invariant_of-self c =
    let ahead = c.self.inside.engine.ahead in
    record {
      works = c.self.invariant.works;
      first = subst (λ (l : List AskedCommand). AreFirst ahead l) (sym c.submit.ensures)
          (first_of_more ahead c.confirm_before.new.asks _
          (subst (λ (l : List AskedCommand). AreFirst ahead l) (sym c.confirm_before.ensures.asked)
          (first_of_more ahead c.self.inside.asks _ c.self.invariant.first)));
    }

pub returns-clause-asked : goal.returns-clause-asked
returns-clause-asked c =
    let place = c.place_up_to-place.result in
    let bounds = c.in-Ok.bounds in
    let asks = c.self.inside.asks in
    let old : ImageState = record { engine = c.self.inside.engine; lost = c.self.inside.lost; asked = asks } in
    let before = confirmed_before c.args.element place in
    let request = Asks (record { element = c.args.element; number = bounds.1; op = c.args.op }) in
    let more = before ++ with_ticket c.args.ticket request ∷ [] in
    let is : c.submit.new.self ≡ asks ++ more =
    c.submit.ensures
    ∙ ap (λ (l : List AskedCommand). l ++ with_ticket c.args.ticket request ∷ []) c.confirm_before.ensures.asked
    ∙ append_again asks before (with_ticket c.args.ticket request ∷ []) in
    record {
      base = bounds.0;
      place = place;
      behind = sym c.window_behind.ensures ∙ c.in-Ok.is;
      stands = subst (λ (m : Contents). IsPlaceUpTo m c.args.element c.args.most bounds place)
          (c.memory.ensures ∙ ap (λ (i : ImageState). i.engine.memory) c.self.view_is) c.place_up_to-place.ensures;
      some = search rules;
      asked = ap (with_asked old) is ∙ ap (λ (i : ImageState). asked_too i more) c.self.view_is;
    }
