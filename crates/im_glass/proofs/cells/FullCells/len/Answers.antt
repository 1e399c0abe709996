use Rattle.std.proofs.Common.{ℕ, List, length, Option, sym, ap, ◌∙◌}
use Rattle.im_glass.proofs.CellLemmas.{cells_length}

pub returns : Rattle.im_glass.proofs.cells.FullCells.len.Goals.returns
returns c =
    let e = cells_length c.self.inside.full.items c.self.inside.values.items c.self.invariant in
    c.len.ensures ∙ c.self.inside.full.ok.0 ∙ sym e ∙ ap (λ (cells : List (Option ℕ)). length cells) c.self.view_is
