use Rattle.std.proofs.Common.{Ok, sym, ap, ◌∙◌, arith}
use Rattle.im_types.specs.Types.{M}
use Rattle.im_memory.proofs.CoverLemmas.{HasPlaces-err, HasPlaces-ok, most-ok, take-open}
use Rattle.im_memory.specs.{State.rows_of, Touched.by_take, Touched.last_at}
use Rattle.im_memory.proofs.touches.touch_take.Goals as goal

pub returns-in_default-clause-places : goal.returns-in_default-clause-places
returns-in_default-clause-places c =
    HasPlaces-err M c.args.table.now c.args.arena.now c.args.a _
    (by_take c.args.arena.now.links.spare
    (last_at (rows_of c.args.table.now c.args.arena.now) c.args.a) c.args.a) _ _ (sym c.in_default.ensures)

pub returns-in-Full-clause-places : goal.returns-in-Full-clause-places
returns-in-Full-clause-places c =
    HasPlaces-ok M c.args.table.now c.args.arena.now c.args.a _
    (by_take c.args.arena.now.links.spare
    (last_at (rows_of c.args.table.now c.args.arena.now) c.args.a) c.args.a) _ _
    (sym c.in-Ok.ensures ∙ ap (λ x. Ok x) c.in-Full.is)
    (record { of_cells = (c.touch_cell.ensures.cell, tt); of_nodes = tt })

pub returns-in-Full-clause-few : goal.returns-in-Full-clause-few
returns-in-Full-clause-few c =
    let most = most-ok M c.args.table.now c.args.arena.now c.args.a (λ state. 3) _ (sym c.in-Ok.ensures) in
    omega arith

pub returns-in-Clashed-clause-places : goal.returns-in-Clashed-clause-places
returns-in-Clashed-clause-places c =
    HasPlaces-ok M c.args.table.now c.args.arena.now c.args.a _
    (by_take c.args.arena.now.links.spare
    (last_at (rows_of c.args.table.now c.args.arena.now) c.args.a) c.args.a) _ _
    (sym c.in-Ok.ensures ∙ ap (λ x. Ok x) c.in-Clashed.is)
    (record { of_cells = (c.touch_cell.ensures.cell, tt); of_nodes = tt })

pub returns-in-Clashed-clause-few : goal.returns-in-Clashed-clause-few
returns-in-Clashed-clause-few c =
    let most = most-ok M c.args.table.now c.args.arena.now c.args.a (λ state. 3) _ (sym c.in-Ok.ensures) in
    omega arith

pub returns-in_default-cell-clause-places : goal.returns-in_default-cell-clause-places
returns-in_default-cell-clause-places c =
    let added = c.touch_ends.ensures in
    HasPlaces-ok M c.args.table.now c.args.arena.now c.args.a _
    (by_take c.args.arena.now.links.spare
    (last_at (rows_of c.args.table.now c.args.arena.now) c.args.a) c.args.a) _ _ (sym c.in-Ok.ensures)
    (take-open c.args.table.now c.args.arena.now c.requires c.args.a _ _
    (added.kept _ c.touch_cell.ensures.cell) added.spare added.last c.in-Ok.cell c.in_default-cell.not-Full c.in_default-cell.not-Clashed)

pub returns-in_default-cell-clause-few : goal.returns-in_default-cell-clause-few
returns-in_default-cell-clause-few c =
    let most = most-ok M c.args.table.now c.args.arena.now c.args.a (λ state. 3) _ (sym c.in-Ok.ensures) in
    omega arith
