use Rattle.std.proofs.Common.{if◌then◌else◌, Some, None, sym, ap, ◌∙◌, arith}
use Rattle.im_records.proofs.{Filled.filled, Filled.not_filled, Reading.false_true}
use Rattle.im_records.proofs.read.cell_if.Goals as goal

pub returns-then-fill_cell : goal.returns-then-fill_cell
returns-then-fill_cell c = ap (λ b. if b then Some c.args.cell else None)
    (filled c.args.bytes.now c.args.cell (omega arith) c.fits-bytes c.requires
    (c.fill_cell.ensures.0 c.if-fill_cell.true))

pub returns-else-fill_cell : goal.returns-else-fill_cell
returns-else-fill_cell c = ap (λ b. if b then Some c.args.cell else None)
    (not_filled c.args.bytes.now c.args.cell
    (λ fill. false_true (sym c.if-fill_cell.false ∙ c.fill_cell.ensures.1 fill)))
