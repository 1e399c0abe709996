use Rattle.std.proofs.Common.{[], ◌∷◌, ◌++◌, ap, ◌∙◌}
use Rattle.im_cell.{proofs.Rows.rows-more, specs.Cells.rows_in}

pub returns : Rattle.im_cell.proofs.row.CellRow.push.Goals.returns
returns c =
    rw (
      c.push_reserved.ensures.items,
      c.push_reserved-2.ensures.items,
      c.push_reserved-3.ensures.items,
      c.push_reserved-4.ensures.items,
    )
    (rows-more c.self.inside.states.items c.self.inside.values.items c.self.inside.extents.items c.self.inside.lasts.items _ _ _ _
    c.self.invariant.values_are c.self.invariant.extents_are c.self.invariant.lasts_are
    ∙ ap (λ r. rows_in c.self.inside.states.items c.self.inside.values.items c.self.inside.extents.items c.self.inside.lasts.items ++ r ∷ []) c.parts_shown-parts.ensures
    ∙ ap (λ row. row ++ c.args.cell ∷ []) c.self.view_is)
