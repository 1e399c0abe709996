use Rattle.std.proofs.Common.{length, slice_index_or, sym, ap, ◌∙◌, subst, arith}
use Rattle.im_types.specs.Types.{NONE, PresenceTag, FreeCell, BlockCell, FitsTag, Records}
use Rattle.im_cell.specs.Slots.{block_in}
use Rattle.im_memory.proofs.RecordLemmas.{length-cells, slot-none, slot-some}
use Rattle.im_memory.specs.Shown.{tag_shown}
use Rattle.im_memory.proofs.records.MemoryRecords.cell_record.Goals as goal

pub returns-in-None-clause-shown : goal.returns-in-None-clause-shown
returns-in-None-clause-shown c =
    let m = c.self.inside in
    slot-none m.table.now m.arena.now c.args.a c.in-None.ensures
    ∙ ap (λ (r : Records). slice_index_or r.cells c.args.a (FreeCell 0 NONE)) c.self.view_is

pub returns-in-Some-clause-shown : goal.returns-in-Some-clause-shown
returns-in-Some-clause-shown c =
    let m = c.self.inside in
    ap (λ (tag : PresenceTag). BlockCell c.in-Some.slot.block tag)
    (c.tag_of.ensures.tag ∙ ap (tag_shown c.in-Some.slot.cell) c.ends_at.ensures.ends)
    ∙ slot-some m.table.now m.arena.now c.args.a c.in-Some.slot c.in-Some.ensures
    ∙ ap (λ (r : Records). slice_index_or r.cells c.args.a (FreeCell 0 NONE)) c.self.view_is

pub returns-in-Some-clause-fits : goal.returns-in-Some-clause-fits
returns-in-Some-clause-fits c =
    let m = c.self.inside in
    let cells = sym (length-cells m.table.now m.arena.now.links.ends)
    ∙ ap (λ (r : Records). length r.cells) c.self.view_is in
    let many = ap (λ (r : Records). length r.nodes) c.self.view_is in
    let within = (c.have_blocks.ensures.within c.args.a c.in-Some.slot.block (sym (ap block_in c.in-Some.ensures))).2 in (
      omega (arith, cells, within),
      subst (λ n. FitsTag n c.tag_of.result) many
          (c.tag_of.ensures.fits (length m.arena.now.links.records) c.ends_at.ensures.within),
    )
