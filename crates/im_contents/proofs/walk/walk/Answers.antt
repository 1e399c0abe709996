use Rattle.std.proofs.Common.{◌+◌, ◌-◌, true, List, length, set, if◌then◌else◌, ◌==◌, Some, None, sym, ap, ◌∙◌, eq-eqb}
use Rattle.std.proofs.Common.{ne_eqb}
use Rattle.im_types.specs.Types.{Waiter, NONE}
use Rattle.im_contents.proofs.StepLemmas.{ended, lost, went}
use Rattle.im_contents.specs.Walk.{met_after, walk}
use Rattle.im_contents.proofs.walk.walk.Goals as goal

pub returns-in_default : goal.returns-in_default
returns-in_default c =
    lost c.args.nodes.now c.args.last
    (length c.args.nodes.now) c.loop-step._step c.loop-step-test.true c.loop-step.marks c.loop-step.at
    c.loop-step.waiters.items _ c.loop-step.invariant
    c.in_default.field-0 (sym c.unvisited_node.ensures ∙ c.in_default.is)

pub returns-then-next : goal.returns-then-next
returns-then-next c =
    ended c.args.nodes.now c.args.last
    (length c.args.nodes.now) c.loop-step._step c.loop-step-test.true c.loop-step.marks c.loop-step.at
    c.loop-step.waiters.items _ c.loop-step.invariant
    c.in-Listed.next c.in-Listed.waiter (sym c.unvisited_node.ensures ∙ c.in-Listed.is)
    (eq-eqb c.in-Listed.next NONE c.if-next.true)
    ∙ ap (λ (l : List Waiter). if c.loop-step.at == c.args.last then Some
    (record { waiters = l; marks = set c.loop-step.marks c.loop-step.at true }) else None)
    (sym c.in_ok-push.ensures.items)

pub loop-step-preserved : goal.loop-step-preserved
loop-step-preserved c =
    went c.args.nodes.now c.args.last
    (length c.args.nodes.now) c.loop-step._step c.loop-step-test.true c.loop-step.marks c.loop-step.at
    c.loop-step.waiters.items _ c.loop-step.invariant
    c.in-Listed.next c.in-Listed.waiter (sym c.unvisited_node.ensures ∙ c.in-Listed.is)
    (ne_eqb c.in-Listed.next NONE c.if-next.false)
    ∙ ap (λ (l : List Waiter). met_after l
    (walk c.args.nodes.now c.args.last (length c.args.nodes.now - (c.loop-step._step + 1))
    (set c.loop-step.marks c.loop-step.at true) c.in-Listed.next)) (sym c.in_ok-push.ensures.items)
