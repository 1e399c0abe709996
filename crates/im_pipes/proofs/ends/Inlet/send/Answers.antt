use Rattle.std.proofs.Common.{[], ◌∷◌, ◌++◌, ap, ◌∙◌}
use Rattle.im_pipes.proofs.{ends.Inlet.send.Goals.in-Err, ends.Inlet.send.Goals.in-Ok, MessageLemmas.sent_item}
use Rattle.im_pipes.specs.Ends.{PipeEnd}
use Rattle.im_pipes.proofs.ends.Inlet.send.Goals as goal

pub invariant_of-self : goal.invariant_of-self
invariant_of-self g c =
    elim c.match-put.branch [
      | in-Ok w ↦ (w.in-Ok.ensures.seat, (sent_item _ _ c.args.item c.self.invariant.1 w.in-Ok.ensures.sent).1)
      | in-Err w ↦ (w.in-Err.ensures.seat, rw w.in-Err.ensures.sent.1 c.self.invariant.1)
    ]

pub returns-clause-contents : goal.returns-clause-contents
returns-clause-contents g c =
    elim c.match-put.branch [
      | in-Ok w ↦ rw w.result-is
          ((sent_item _ _ c.args.item c.self.invariant.1 w.in-Ok.ensures.sent).0
          ∙ ap (λ (e : PipeEnd g.row.T.Denot). e.items ++ c.args.item ∷ []) c.self.view_is)
      | in-Err w ↦ rw w.result-is
          (rw w.in-Err.ensures.sent.1 (ap (λ (e : PipeEnd g.row.T.Denot). e.items) c.self.view_is))
    ]

pub returns-clause-refused : goal.returns-clause-refused
returns-clause-refused g c =
    elim c.match-put.branch [
      | in-Ok w ↦ rw w.result-is tt
      | in-Err w ↦ rw w.result-is (cc (w.in-Err.ensures.sent.0, w.unwrap.ensures))
    ]
