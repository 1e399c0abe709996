use Rattle.std.proofs.Common.{sym, ap, ◌∙◌, arith}
use Rattle.{im_types.specs.Types.block_at, im_cell.specs.Slots.slot_block as block_in_slots}
use Rattle.im_memory.{proofs.CellsLemmas.block_at-cells, specs.State.MemoryState}

pub returns : Rattle.im_memory.proofs.memory.Memory.block.Goals.returns
returns c =
    let m = c.self.inside in
    c.block_of.ensures.block ∙ ap (block_in_slots m.table) (omega arith)
    ∙ sym (block_at-cells m.table m.arena c.args.a)
    ∙ ap (λ (m : MemoryState). block_at m.contents.cells c.args.a) c.self.view_is
