use Rattle.std.proofs.Common.{◌≡◌, sym, ◌∙◌, subst}
use Rattle.{im_types.specs.Types.FitsCell, im_formats.proofs.Records.read_cell-only}
use Rattle.im_records.proofs.Reading.{cell_is_read, false_true, none_some, some_inj}
use Rattle.im_records.proofs.rows.cell_within.Goals as goal

pub returns-in_err-cell-clause-only : goal.returns-in_err-cell-clause-only
returns-in_err-cell-clause-only c = λ cell spells. absurd
    (none_some cell (sym c.in_err-cell.was ∙ c.read_cell.ensures
    ∙ cell_is_read c.args.cells c.args.nodes c.args.bytes.now cell (c.ranges.cells.fits) (c.ranges.nodes.fits) spells))

pub returns-then-fits_cell-clause-found : goal.returns-then-fits_cell-clause-found
returns-then-fits_cell-clause-found c = record {
  is = read_cell-only c.args.bytes.now c.in_ok-cell.cell (sym c.read_cell.ensures ∙ c.in_ok-cell.was);
  fits = c.fits_cell.ensures.0 c.if-fits_cell.true;
}

pub returns-then-fits_cell-clause-only : goal.returns-then-fits_cell-clause-only
returns-then-fits_cell-clause-only c = λ cell spells. sym c.in_ok-cell.was ∙ c.read_cell.ensures
    ∙ cell_is_read c.args.cells c.args.nodes c.args.bytes.now cell (c.ranges.cells.fits) (c.ranges.nodes.fits) spells

pub returns-else-fits_cell-clause-only : goal.returns-else-fits_cell-clause-only
returns-else-fits_cell-clause-only c = λ cell spells.
    let same : c.in_ok-cell.cell
    ≡ cell = some_inj c.in_ok-cell.cell cell
    (sym c.in_ok-cell.was ∙ c.read_cell.ensures
    ∙ cell_is_read c.args.cells c.args.nodes c.args.bytes.now cell (c.ranges.cells.fits)
    (c.ranges.nodes.fits) spells) in
    absurd (false_true (sym c.if-fits_cell.false
    ∙ c.fits_cell.ensures.1 (subst (FitsCell c.args.cells c.args.nodes) (sym same) spells.fits)))
