use Rattle.std.proofs.Common.{◌++◌, string_bytes, ap, ◌∙◌}
use Rattle.im_types.specs.Types.{held_at, waiters_at, presence_in}
use Rattle.im_text.proofs.TextLemmas.{written_more, written_none}
use Rattle.im_report.specs.{Look.names_cell, Look.text_if, Report.cell_line}
use Rattle.im_report.proofs.filtering.add_named_cells.Goals as goal

pub loop-a-init : goal.loop-a-init
loop-a-init c = written_none _ _

pub loop-a-preserved : goal.loop-a-preserved
loop-a-preserved c = written_more _ _ _ _ _ c.loop-a.invariant
    (c.in_ok-add_cell_if.ensures ∙ ap (λ w. string_bytes c.loop-a.out ++ text_if w (cell_line c.args.notation c.loop-a.a
    (presence_in (held_at c.args.memory.now.contents.cells c.loop-a.a))
    (waiters_at c.args.memory.now.contents.cells c.loop-a.a)))
    (c.names_cell-wanted.ensures ∙ ap (names_cell c.args.filter.now c.loop-a.a) c.cell.ensures))
