use Rattle.std.proofs.Common.{List, [], ◌∷◌, ◌++◌, sym, ap, ◌∙◌}
use Rattle.im_types.specs.Types.{CellRecord}
use Rattle.im_migration.{proofs.Chained.free_cell, proofs.Fitted.fitted-more, specs.Resizing.fitted}

pub loop-a-preserved : Rattle.im_migration.proofs.resizing.row_of.Goals.loop-a-preserved
loop-a-preserved c =
    c.in_ok-push.ensures
    ∙ ap (λ (row : List CellRecord). row ++ c.cell_record.result ∷ []) c.loop-a.invariant
    ∙ ap (λ (cell : CellRecord). fitted free_cell c.loop-a.a c.args.records.now.cells ++ cell ∷ [])
    c.cell_record.ensures.shown
    ∙ sym (fitted-more free_cell c.loop-a.a c.args.records.now.cells)
