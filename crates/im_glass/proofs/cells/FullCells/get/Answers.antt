use Rattle.std.proofs.Common.{◌≡◌, ℕ, ◌<◌, ◌≤◌, Bool, true, false, List, length, get_or, Some, None, Option, sym, ap}
use Rattle.std.proofs.Common.{◌∙◌, arith, rules}
use Rattle.im_glass.{proofs.CellLemmas.cells_get, proofs.CellLemmas.cells_past, specs.Cells.cell_seen}
use Rattle.im_glass.proofs.cells.FullCells.get.Goals as goal

pub returns-then-a-len : goal.returns-then-a-len
returns-then-a-len c =
    let past : length c.self.inside.full.items ≤ c.args.a = omega
    (arith, c.if-a-len.true, c.len.ensures, c.self.inside.full.ok.0) in
    cells_past c.self.inside.full.items c.self.inside.values.items c.args.a past
    ∙ ap (λ (cells : List (Option ℕ)). get_or cells c.args.a None) c.self.view_is

pub returns-then-index : goal.returns-then-index
returns-then-index c =
    let fulls = c.self.inside.full.items in
    let values = c.self.inside.values.items in
    let below : c.args.a < length fulls = omega (arith, c.if-a-len.false, c.len.ensures, c.self.inside.full.ok.0) in
    let full : get_or fulls c.args.a c.index.result.now ≡ true = search rules in
    let value : get_or values c.args.a c.index-then-index.result.now ≡ c.index-then-index.result.now = search rules in
    ap Some (sym value)
    ∙ ap (λ (f : Bool). cell_seen f (get_or values c.args.a c.index-then-index.result.now)) (sym full)
    ∙ cells_get fulls values c.args.a c.index.result.now c.index-then-index.result.now c.self.invariant below
    ∙ ap (λ (cells : List (Option ℕ)). get_or cells c.args.a None) c.self.view_is

pub returns-else-index : goal.returns-else-index
returns-else-index c =
    let fulls = c.self.inside.full.items in
    let values = c.self.inside.values.items in
    let below : c.args.a < length fulls = omega (arith, c.if-a-len.false, c.len.ensures, c.self.inside.full.ok.0) in
    let full : get_or fulls c.args.a c.index.result.now ≡ false = search rules in
    ap (λ (f : Bool). cell_seen f (get_or values c.args.a 0)) (sym full)
    ∙ cells_get fulls values c.args.a c.index.result.now 0 c.self.invariant below
    ∙ ap (λ (cells : List (Option ℕ)). get_or cells c.args.a None) c.self.view_is
