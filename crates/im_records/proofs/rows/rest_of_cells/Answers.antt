use Rattle.std.proofs.Common.{◌*◌, length, sym, ◌∙◌, arith}
use Rattle.im_types.specs.Types.{NONE, FreeCell, cell_bytes, FitsCell}
use Rattle.im_records.proofs.Parts.{beginning_of_row, row_of_beginning, zeros_in_piece, zeros_of_piece}
use Rattle.im_records.proofs.{Reading.false_true, RowLemmas.begin_as_many, RowLemmas.refused-same}
use Rattle.im_records.proofs.rows.rest_of_cells.Goals as goal

pub returns-then-not-are_zero-clause-bad : goal.returns-then-not-are_zero-clause-bad
returns-then-not-are_zero-clause-bad c = λ e n area all whole stands is.
    absurd (false_true (sym c.if-not-are_zero.true
    ∙ c.are_zero.ensures.1
    (zeros_in_piece (32 * length c.args.row) _ (32 * c.args.cells) n c.args.part.now area is.rest stands whole
    (omega (arith, c.requires.few, c.len.ensures)))))

pub returns-in-Ok-clause-found : goal.returns-in-Ok-clause-found
returns-in-Ok-clause-found c = λ n area whole stands first.
    row_of_beginning 32 cell_bytes (FitsCell c.args.cells c.args.nodes)
    (FreeCell 0 NONE) c.args.cells n area c.push_cells.new.row (omega (arith, c.requires.inside, whole))
    (begin_as_many 32 cell_bytes (FitsCell c.args.cells c.args.nodes)
    (FreeCell 0 NONE) _ c.args.cells area c.push_cells.new.row (c.in-Ok.ensures.found area stands first)
    (omega (arith, c.requires.few, c.len.ensures)))
    (zeros_of_piece (32 * length c.args.row) _ (32 * c.args.cells) n c.args.part.now area
    (c.are_zero.ensures.0 c.if-not-are_zero.false) stands whole (omega (arith, c.requires.few, c.len.ensures)))

pub returns-in-Err-clause-bad : goal.returns-in-Err-clause-bad
returns-in-Err-clause-bad c = λ e n area all whole stands is.
    c.in-Err.ensures.bad (refused-same c.in-Err.refusal _ e) area all stands
    (beginning_of_row 32 cell_bytes (FitsCell c.args.cells c.args.nodes) (FreeCell 0 NONE) c.args.cells n area all
    (omega (arith, c.requires.inside, whole)) is)
