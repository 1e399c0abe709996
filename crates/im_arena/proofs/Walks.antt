-- Walks along a list.
use Rattle.std.proofs.Common.{◌≡◌, ℕ, zero, suc, ◌<◌, ◌≢◌, List, ◌∷◌, length, sym, refl, ap, ◌∙◌, subst, arith}
use Rattle.im_types.specs.Types.{NONE}
use Rattle.im_arena.proofs.Tables.{steps-are}
use Rattle.im_arena.specs.{Chain.along, Chain.place_from, declared.table.Node.Node}
use Rattle.im_arena.specs.Table.{IsWalk, next_of, steps_from, waiter_of, waiters_from}

-- the first node, spelled otherwise
pub IsWalk-same : (nodes : List Node) (at first : ℕ) → at ≡ first → IsWalk nodes first → IsWalk nodes at
IsWalk-same nodes at first same walk = subst (IsWalk nodes) (sym same) walk

module _ (nodes : List Node) (at : ℕ) (walk : IsWalk nodes at) where
  abbrev next : ℕ → ℕ
  next = next_of nodes

  abbrev steps : ℕ
  steps = steps_from next at (length nodes)

  module _ (some : at ≢ NONE) where
    -- how many are left behind the next one
    pub more : (n : ℕ) → steps ≡ n → (k : ℕ) × (steps ≡ suc k)
    more zero is = absurd (some (sym (ap (place_from next at) is) ∙ walk.end))
    more (suc k) is = (k, is)

    abbrev k : ℕ
    k = (more steps refl).0

    pub steps-here : steps ≡ suc k
    steps-here = (more steps refl).1

    pub steps-behind : steps_from next (next at) (length nodes) ≡ k
    steps-behind =
        steps-are next (next at) k (length nodes)
        (λ i lt none. omega (arith, none, walk.within (suc i) (omega (arith, steps-here)), walk.few))
        (sym (ap (place_from next at) steps-here) ∙ walk.end) (omega (arith, steps-here, walk.short))

    pub node-here : at < length nodes
    node-here = walk.within 0 (omega (arith, steps-here))

    pub walk-behind : IsWalk nodes (next at)
    walk-behind = record {
      few = walk.few;
      short = omega (arith, steps-behind, steps-here, walk.short);
      within = λ i lt. walk.within (suc i) (omega (arith, steps-behind, steps-here));
      end = ap (place_from next (next at)) steps-behind ∙ sym (ap (place_from next at) steps-here) ∙ walk.end;
    }

    pub first-left : waiters_from nodes at ≡ waiter_of nodes at ∷ waiters_from nodes (next at)
    first-left = ap (along (waiter_of nodes) next at) steps-here
        ∙ ap (λ n. waiter_of nodes at ∷ along (waiter_of nodes) next (next at) n) (sym steps-behind)
