use Rattle.std.proofs.Common.{◌≡◌, ℕ, Bool, false, List, replicate, ap, ◌∙◌, rules}
use Rattle.im_glass.{proofs.CellLemmas.cells_new, specs.Cells.cells_seen}

pub returns : Rattle.im_glass.proofs.cells.FullCells.new.Goals.returns
returns c =
    let fulls : c.in_ok-full.full.items ≡ replicate c.args.cells false = search rules in
    let values : c.in_ok-values.values.items ≡ replicate c.args.cells 0 = search rules in
    ap (λ (fulls : List Bool). cells_seen fulls c.in_ok-values.values.items) fulls
    ∙ ap (λ (values : List ℕ). cells_seen (replicate c.args.cells false) values) values
    ∙ cells_new c.args.cells 0
