use Rattle.std.proofs.Common.{ℕ, ◌<◌, List, length, set, None, Option, sym, ap, ◌∙◌, subst, arith}
use Rattle.im_glass.proofs.CellLemmas.{cells_emptied, cells_length}
use Rattle.im_glass.proofs.cells.FullCells.empty.Goals as goal

pub index_mut-requires : goal.index_mut-requires
index_mut-requires c =
    let below = subst (λ (cells : List (Option ℕ)). c.args.a < length cells) (sym c.self.view_is) c.requires in
    omega (arith, below, cells_length c.self.inside.full.items c.self.inside.values.items c.self.invariant, c.self.inside.full.ok.0)

pub returns : goal.returns
returns c =
    cells_emptied c.self.inside.full.items c.self.inside.values.items c.args.a
    ∙ ap (λ (cells : List (Option ℕ)). set cells c.args.a None) c.self.view_is
