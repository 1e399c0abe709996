use Rattle.std.proofs.Common.{sym, ap, ◌∙◌, arith}
use Rattle.im_arena.proofs.{Views.few_steps, Views.list_at-read, Views.place-end, Views.place-read, Walks.IsWalk-same}
use Rattle.im_arena.specs.Table.{waiters_from}
use Rattle.im_arena.proofs.Arena.waiters.Goals as goal

pub from-requires : goal.from-requires
from-requires c =
    rw c.deref.ensures.value (IsWalk-same _ _ c.index.result.now.first (omega arith) (record {
      few = c.self.invariant.sound.chains.few;
      short = few_steps _ _ _ _ c.self.invariant _ c.index.result.now (omega arith) c.index.ensures;
      within = place-read _ _ _ _ c.self.invariant _ c.index.result.now (omega arith) c.index.ensures;
      end = place-end _ _ _ _ c.self.invariant _ c.index.result.now (omega arith) c.index.ensures;
    }))

pub returns : goal.returns
returns c =
    rw (← c.self.view_is, c.from.ensures, c.deref.ensures.value)
    (ap (waiters_from c.self.inside.nodes.items) (omega arith)
    ∙ sym (list_at-read _ _ _ _ c.self.invariant _ c.index.result.now (omega arith) c.index.ensures))
