use Rattle.std.proofs.Common.{sym, ◌∙◌, arith}
use Rattle.im_arena.proofs.Views.{at_end, few_steps, inside-held, list-steps, not_end, place-read, step-read}
use Rattle.im_arena.proofs.Arena.len.Goals as goal

pub returns-then-node : goal.returns-then-node
returns-then-node c =
    let inside = inside-held _ _ _ _ c.self.invariant _ (rw (← c.self.view_is) at c.requires) in
    let end = at_end _ _ _ _ c.self.invariant _ c.index.result.now inside c.index.ensures c.loop-count.count c.loop-count.invariant.before (sym c.loop-count.invariant.node ∙ c.if-node.true) in
    rw (← c.self.view_is, list-steps _ _ _ _ c.self.invariant _ c.index.result.now inside c.index.ensures) end

pub index-requires-in-loop-count : goal.index-requires-in-loop-count
index-requires-in-loop-count c =
    let inside = inside-held _ _ _ _ c.self.invariant _ (rw (← c.self.view_is) at c.requires) in
    let before = not_end _ _ _ _ c.self.invariant _ c.index.result.now inside c.index.ensures c.loop-count.count c.loop-count.invariant.before (λ none. c.if-node.false (c.loop-count.invariant.node ∙ none)) in
    omega (arith, c.loop-count.invariant.node, place-read _ _ _ _ c.self.invariant _ c.index.result.now inside c.index.ensures c.loop-count.count before)

pub loop-count-preserved : goal.loop-count-preserved
loop-count-preserved c =
    let inside = inside-held _ _ _ _ c.self.invariant _ (rw (← c.self.view_is) at c.requires) in
    let before = not_end _ _ _ _ c.self.invariant _ c.index.result.now inside c.index.ensures c.loop-count.count c.loop-count.invariant.before (λ none. c.if-node.false (c.loop-count.invariant.node ∙ none)) in
    record {
      node = step-read _ _ _ _ c.self.invariant _ c.index.result.now inside c.index.ensures c.loop-count.count c.loop-count.node c.index-in-loop-count.result.now before c.loop-count.invariant.node c.index-in-loop-count.ensures;
      before = omega arith;
    }

pub returns : goal.returns
returns c =
    let inside = inside-held _ _ _ _ c.self.invariant _ (rw (← c.self.view_is) at c.requires) in
    let few = few_steps _ _ _ _ c.self.invariant _ c.index.result.now inside c.index.ensures in
    let before = c.loop-count.invariant.before in
    let nodes = rw (← c.self.view_is) at c.node_count.ensures in
    let all = rw (← c.self.view_is) at c.node_count-count-end.ensures in
    rw (← c.self.view_is, list-steps _ _ _ _ c.self.invariant _ c.index.result.now inside c.index.ensures) (omega arith)
