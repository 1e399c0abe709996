use Rattle.std.proofs.Common.{map, ap, ◌∙◌}
use Rattle.im_cell.{proofs.Blocks.HasBlocks-free, proofs.Rows.slots-free, specs.Slots.shown_slot}
use Rattle.im_cell.proofs.table.free_table.Goals as goal

pub in_room-requires-clause-blocks : goal.in_room-requires-clause-blocks
in_room-requires-clause-blocks c = HasBlocks-free (map shown_slot c.in_ok-row.row) c.args.cells
    (ap (map shown_slot) c.in_ok-row.ensures ∙ slots-free c.args.cells)

pub returns : goal.returns
returns c = c.in_room.ensures ∙ ap (map shown_slot) c.in_ok-row.ensures ∙ slots-free c.args.cells
