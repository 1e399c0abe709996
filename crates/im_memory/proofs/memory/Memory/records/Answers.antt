use Rattle.std.proofs.Common.{◌*◌, length, sym, ap, ◌∙◌}
use Rattle.im_types.specs.Types.{WINDOW, Records}
use Rattle.im_memory.proofs.{CellsLemmas.length-cells, RecordLemmas.length-cells as length-records}
use Rattle.im_memory.specs.State.{MemoryState}
use Rattle.im_memory.proofs.memory.Memory.records.Goals as goal

pub returns-clause-cells : goal.returns-clause-cells
returns-clause-cells c =
    let m = c.self.inside in
    ap (λ (r : Records). length r.cells) c.new.ensures.records ∙ length-records m.table m.arena.links.ends
    ∙ sym (length-cells m.table m.arena) ∙ ap (λ (m : MemoryState). length m.contents.cells) c.self.view_is

pub returns-clause-nodes : goal.returns-clause-nodes
returns-clause-nodes c = c.new.ensures.nodes ∙ c.self.invariant.nodes
    ∙ ap (λ (m : MemoryState). WINDOW * length m.contents.windows) c.self.view_is
