use Rattle.std.proofs.Common.{sym, subst}
use Rattle.{im_disk.specs.Moment.Moment, im_checkpoint.specs.Keeping.IsKept, im_checkpoint.specs.Keeping.paged}

pub invariant_of-self : Rattle.im_engine.proofs.engine.Engine.empty_list.Goals.invariant_of-self
invariant_of-self g c =
    let e = c.self.inside in (
      c.self.invariant.0,
      λ honest alive.
          subst (λ (m : Moment). IsKept e.checkpoint.state (paged e.checkpoint e.memory) e.memory.contents e.journal m)
          (sym c.empty.ensures.now) (c.self.invariant.1 (c.empty.ensures.honest honest) alive),
      c.self.invariant.2,
    )
