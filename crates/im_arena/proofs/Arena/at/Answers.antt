use Rattle.std.proofs.Common.{◌≡◌, Some, sym, ap, ◌∙◌, arith}
use Rattle.im_arena.proofs.Views.{at_end, inside-held, list_at-read, not_end, past-read, place-read, slice_get-along}
use Rattle.im_arena.proofs.Views.{step-read, waiter-read}
use Rattle.im_arena.specs.{Chain.place_from, Table.next_of, Table.waiter_of}
use Rattle.im_arena.proofs.Arena.at.Goals as goal

pub returns-then-node : goal.returns-then-node
returns-then-node c =
    let inside = inside-held _ _ _ _ c.self.invariant _ (rw (← c.self.view_is) at c.requires) in
    let end = at_end _ _ _ _ c.self.invariant _ c.index.result.now inside c.index.ensures c.loop-step._step c.loop-step.invariant.before (sym c.loop-step.invariant.node ∙ c.if-node.true) in
    rw (← c.self.view_is)
    (sym (past-read _ _ _ _ c.self.invariant _ c.index.result.now inside c.index.ensures c.args.place
    (omega arith)))

pub index-requires-in-loop-step : goal.index-requires-in-loop-step
index-requires-in-loop-step c =
    let inside = inside-held _ _ _ _ c.self.invariant _ (rw (← c.self.view_is) at c.requires) in
    let before = not_end _ _ _ _ c.self.invariant _ c.index.result.now inside c.index.ensures c.loop-step._step c.loop-step.invariant.before (λ none. c.if-node.false (c.loop-step.invariant.node ∙ none)) in
    omega (arith, c.loop-step.invariant.node, place-read _ _ _ _ c.self.invariant _ c.index.result.now inside c.index.ensures c.loop-step._step before)

pub loop-step-preserved : goal.loop-step-preserved
loop-step-preserved c =
    let inside = inside-held _ _ _ _ c.self.invariant _ (rw (← c.self.view_is) at c.requires) in
    let before = not_end _ _ _ _ c.self.invariant _ c.index.result.now inside c.index.ensures c.loop-step._step c.loop-step.invariant.before (λ none. c.if-node.false (c.loop-step.invariant.node ∙ none)) in
    record {
      node = step-read _ _ _ _ c.self.invariant _ c.index.result.now inside c.index.ensures c.loop-step._step c.loop-step.node c.index-in-loop-step.result.now before c.loop-step.invariant.node c.index-in-loop-step.ensures;
      before = omega arith;
    }

pub returns-then-node-2 : goal.returns-then-node-2
returns-then-node-2 c =
    let inside = inside-held _ _ _ _ c.self.invariant _ (rw (← c.self.view_is) at c.requires) in
    let end = at_end _ _ _ _ c.self.invariant _ c.index.result.now inside c.index.ensures c.loop-step._step c.loop-step.invariant.before (sym c.loop-step.invariant.node ∙ c.if-node-2.true) in
    rw (← c.self.view_is)
    (sym (past-read _ _ _ _ c.self.invariant _ c.index.result.now inside c.index.ensures c.args.place
    (omega arith)))

pub index-requires-2 : goal.index-requires-2
index-requires-2 c =
    let inside = inside-held _ _ _ _ c.self.invariant _ (rw (← c.self.view_is) at c.requires) in
    let before = not_end _ _ _ _ c.self.invariant _ c.index.result.now inside c.index.ensures c.loop-step._step c.loop-step.invariant.before (λ none. c.if-node-2.false (c.loop-step.invariant.node ∙ none)) in
    omega (arith, c.loop-step.invariant.node, place-read _ _ _ _ c.self.invariant _ c.index.result.now inside c.index.ensures c.loop-step._step before)

pub returns : goal.returns
returns c =
    let inside = inside-held _ _ _ _ c.self.invariant _ (rw (← c.self.view_is) at c.requires) in
    let before = not_end _ _ _ _ c.self.invariant _ c.index.result.now inside c.index.ensures c.loop-step._step c.loop-step.invariant.before (λ none. c.if-node-2.false (c.loop-step.invariant.node ∙ none)) in
    let within = place-read _ _ _ _ c.self.invariant _ c.index.result.now inside c.index.ensures c.loop-step._step before in
    let is = c.loop-step.invariant.node in
    let done : c.loop-step._step ≡ c.args.place = omega arith in
    let at : c.loop-step.node ≡ place_from (next_of c.self.inside.nodes.items) c.index.result.now.first c.args.place =
    is ∙ ap (place_from (next_of c.self.inside.nodes.items) c.index.result.now.first) done in
    rw (← c.self.view_is, list_at-read _ _ _ _ c.self.invariant _ c.index.result.now inside c.index.ensures)
    (sym (slice_get-along (waiter_of c.self.inside.nodes.items)
    (next_of c.self.inside.nodes.items) c.index.result.now.first _ c.args.place (omega arith)
    ∙ ap Some (ap (waiter_of c.self.inside.nodes.items) (sym at)
    ∙ sym (waiter-read c.self.inside.nodes.items c.loop-step.node c.index-2.result.now
    (omega arith) c.index-2.ensures) ∙ sym c.waiter.ensures)))
