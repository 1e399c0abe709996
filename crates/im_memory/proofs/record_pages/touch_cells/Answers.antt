use Rattle.std.proofs.Common.{◌∙◌, arith}
use Rattle.im_pages.specs.Places.{page_of_cell}
use Rattle.im_memory.proofs.CoverLemmas.{AreIn-addresses, cells-count, cells-more}
use Rattle.im_memory.proofs.record_pages.touch_cells.Goals as goal

pub returns-clause-cells : goal.returns-clause-cells
returns-clause-cells c =
    AreIn-addresses _ c.args.base c.args.n
    (λ b lo hi. c.add_range.ensures.found (page_of_cell b) (omega arith) (omega arith))

pub returns-clause-state : goal.returns-clause-state
returns-clause-state c = c.add_range.ensures.state
    ∙ cells-more c.args.pages.now c.args.base c.args.n _ _ c.if-n-eq0.false c.page_of_cell.ensures
    c.page_of_cell-2.ensures

pub returns-clause-few : goal.returns-clause-few
returns-clause-few c =
    omega (
      arith,
      c.add_range.ensures.few,
      cells-count c.args.base c.args.n _ _ c.if-n-eq0.false c.page_of_cell.ensures c.page_of_cell-2.ensures,
    )
