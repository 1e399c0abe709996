use Rattle.std.proofs.Common.{ap, ◌∙◌}
use Rattle.im_pipes.proofs.{ends.Inlet.finish.Goals.in-Err, ends.Inlet.finish.Goals.in-Ok, MessageLemmas.sent_mark}
use Rattle.im_pipes.specs.Ends.{PipeEnd}
use Rattle.im_pipes.proofs.ends.Inlet.finish.Goals as goal

pub invariant_of-t-9 : goal.invariant_of-t-9
invariant_of-t-9 g c = (c.put.ensures.seat, (sent_mark _ _ c.self.invariant.1 c.in-Ok.ensures.sent).1)

pub returns-clause-contents : goal.returns-clause-contents
returns-clause-contents g c =
    elim c.match-put.branch [
      | in-Ok w ↦ rw w.result-is
          ((sent_mark _ _ c.self.invariant.1 w.in-Ok.ensures.sent).0
          ∙ ap (λ (e : PipeEnd g.row.T.Denot). e.items) c.self.view_is)
      | in-Err w ↦ rw w.result-is
          (rw w.in-Err.ensures.sent.1 (ap (λ (e : PipeEnd g.row.T.Denot). e.items) c.self.view_is))
    ]
