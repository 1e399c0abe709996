use Rattle.std.proofs.Common.{◌≡◌, List, [], ◌∷◌, IfNone, slice_get, Some, None, Option, sym, refl, ap, ◌∙◌}
use Rattle.{im_types.specs.Types.Waiter, im_arena.specs.Lists.list_at, im_arena.specs.Lists.Shown}
use Rattle.im_istore.proofs.Cells.{Agree-drained, AgreeBut-list, cells-list}
use Rattle.im_istore.proofs.next_reader.Goals as goal

pub returns-clause-cells : goal.returns-clause-cells
returns-clause-cells c = λ slots but. cells-list c.args.arena.now c.pop_front.new.self c.args.a _ c.pop_front.ensures.rest slots but

pub returns-clause-draining : goal.returns-clause-draining
returns-clause-draining c = λ slots but. AgreeBut-list c.args.arena.now c.pop_front.new.self c.args.a _ c.pop_front.ensures.rest slots but

no_first : (waiters : List Waiter) → None ≡ slice_get waiters 0 → waiters ≡ []
no_first [] e = refl
no_first (waiter ∷ waiters) e = absurd (cc)

if_none : (first : Option Waiter) (P : Type 0) → IfNone first P → first ≡ None → P
if_none None P h e = h
if_none (Some waiter) P h e = absurd (cc)

whole_if : (first : Option Waiter) (P : Type 0) → (first ≡ None → P) → IfNone first P
whole_if None P h = h refl
whole_if (Some waiter) P h = tt

pub returns-clause-whole : goal.returns-clause-whole
returns-clause-whole c = λ slots but.
    let new = AgreeBut-list c.args.arena.now c.pop_front.new.self c.args.a _ c.pop_front.ensures.rest slots but in
    whole_if c.pop_front.result _ (λ none. Agree-drained slots c.pop_front.new.self c.args.a new
    (ap (λ (x : Shown). list_at x.held c.args.a) (if_none _ _ c.pop_front.ensures.none none)
    ∙ no_first _ (sym none ∙ c.pop_front.ensures.first)))
