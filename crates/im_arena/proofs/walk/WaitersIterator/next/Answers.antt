use Rattle.std.proofs.Common.{◌∷◌, length, sym, ap, ◌∙◌, rules}
use Rattle.im_arena.{proofs.Walks.first-left, proofs.Walks.walk-behind, specs.Table.next_of, specs.Table.waiters_from}
use Rattle.im_arena.proofs.walk.WaitersIterator.next.Goals as goal

pub invariant_of-self : goal.invariant_of-self
invariant_of-self c = walk-behind _ _ c.self.invariant c.if-self.false

pub returns-clause-steps : goal.returns-clause-steps
returns-clause-steps c =
    sym c.self.view_is ∙ first-left _ _ c.self.invariant c.if-self.false
    ∙ ap (λ w. w ∷ waiters_from c.self.inside.nodes.now (next_of c.self.inside.nodes.now c.self.inside.at))
    (sym c.waiter.ensures)

pub returns-clause-goes : goal.returns-clause-goes
returns-clause-goes c =
    let left = sym c.self.view_is ∙ first-left _ _ c.self.invariant c.if-self.false in
    let shorter = ap length left in search rules
