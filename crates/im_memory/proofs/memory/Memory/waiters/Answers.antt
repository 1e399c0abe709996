use Rattle.std.proofs.Common.{sym, ap, ◌∙◌, arith}
use Rattle.{im_types.specs.Types.waiters_at, im_arena.specs.Lists.list_at, im_istore.proofs.Waiters.waiters_at-cells}
use Rattle.im_memory.specs.State.{MemoryState}

pub returns : Rattle.im_memory.proofs.memory.Memory.waiters.Goals.returns
returns c =
    let m = c.self.inside in
    c.waiters.ensures ∙ ap (list_at m.arena.held) (omega arith)
    ∙ sym (waiters_at-cells m.table m.arena c.args.a c.self.invariant.agree)
    ∙ ap (λ (m : MemoryState). waiters_at m.contents.cells c.args.a) c.self.view_is
