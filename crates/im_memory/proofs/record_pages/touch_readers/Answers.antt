use Rattle.std.proofs.Common.{length, ap, ◌∙◌, arith}
use Rattle.im_pages.specs.Places.{page_of_node, page_of_session}
use Rattle.im_memory.proofs.CoverLemmas.{nodes-end, nodes-more, sessions-end, sessions-more}
use Rattle.im_memory.proofs.record_pages.touch_readers.Goals as goal

pub loop-reader-preserved : goal.loop-reader-preserved
loop-reader-preserved c =
    let links = c.args.arena.now.links in
    let cells = length c.args.arena.now.held.lists in
    let steps = c.in-Some.ensures.steps in
    record {
      nodes = λ set within among. c.loop-reader.invariant.nodes set
          (λ p e. within p (c.touch_session.ensures.kept p (c.touch_node.ensures.kept p e)))
          (nodes-more (page_of_node cells) links.records set c.loop-reader.at c.next_node-at.result _ _ _ steps c.next_node-at.ensures (within _ (c.touch_session.ensures.kept _ c.touch_node.ensures.node)) among);
      sessions = λ set within among. c.loop-reader.invariant.sessions set
          (λ p e. within p (c.touch_session.ensures.kept p (c.touch_node.ensures.kept p e)))
          (sessions-more (page_of_session cells c.args.elements) set _ _ _ steps
          (within _ c.touch_session.ensures.session) among);
      kept = λ p e. c.touch_session.ensures.kept p (c.touch_node.ensures.kept p (c.loop-reader.invariant.kept p e));
      length = c.touch_session.ensures.length ∙ c.touch_node.ensures.length ∙ c.loop-reader.invariant.length;
      few = omega (
        arith,
        c.touch_session.ensures.few,
        c.touch_node.ensures.few,
        c.loop-reader.invariant.few,
        ap length steps,
      );
    }

pub returns-clause-nodes : goal.returns-clause-nodes
returns-clause-nodes c =
    c.loop-reader.invariant.nodes _ (λ p e. e)
    (nodes-end (page_of_node
    (length c.args.arena.now.held.lists)) c.args.arena.now.links.records _ _ _ c.in-None.ensures.steps.0)

pub returns-clause-sessions : goal.returns-clause-sessions
returns-clause-sessions c =
    c.loop-reader.invariant.sessions _ (λ p e. e)
    (sessions-end (page_of_session
    (length c.args.arena.now.held.lists) c.args.elements) _ _ c.in-None.ensures.steps.0)
