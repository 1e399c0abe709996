use Rattle.std.proofs.Common.{ap, ◌∙◌}
use Rattle.im_types.specs.Types.{held_at, presence_in}
use Rattle.im_memory.{proofs.PresenceLemmas.presence-at, specs.State.MemoryState}

pub returns : Rattle.im_memory.proofs.memory.Memory.cell.Goals.returns
returns c =
    let m = c.self.inside in
    c.get.ensures ∙ presence-at m.table m.arena c.self.invariant.agree c.args.a
    ∙ ap (λ (m : MemoryState). presence_in (held_at m.contents.cells c.args.a)) c.self.view_is
