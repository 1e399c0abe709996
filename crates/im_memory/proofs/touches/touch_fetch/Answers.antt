use Rattle.std.proofs.Common.{Ok, sym, ap, ◌∙◌, arith}
use Rattle.im_types.specs.Types.{I}
use Rattle.im_memory.proofs.CoverLemmas.{fetch-open, HasPlaces-err, HasPlaces-ok, most-ok}
use Rattle.im_memory.specs.{State.rows_of, Touched.by_fetch, Touched.last_at}
use Rattle.im_memory.proofs.touches.touch_fetch.Goals as goal

pub returns-in-Err-clause-places : goal.returns-in-Err-clause-places
returns-in-Err-clause-places c =
    HasPlaces-err I c.args.table.now c.args.arena.now c.args.a _
    (by_fetch c.args.arena.now.links.spare
    (last_at (rows_of c.args.table.now c.args.arena.now) c.args.a) c.args.a) _ _ (sym c.in-Err.ensures)

pub returns-in-Full-clause-places : goal.returns-in-Full-clause-places
returns-in-Full-clause-places c =
    HasPlaces-ok I c.args.table.now c.args.arena.now c.args.a _
    (by_fetch c.args.arena.now.links.spare
    (last_at (rows_of c.args.table.now c.args.arena.now) c.args.a) c.args.a) _ _
    (sym c.in-Ok.ensures ∙ ap (λ x. Ok x) c.in-Full.is) (record { of_cells = tt; of_nodes = tt })

pub returns-in-Clashed-clause-places : goal.returns-in-Clashed-clause-places
returns-in-Clashed-clause-places c =
    HasPlaces-ok I c.args.table.now c.args.arena.now c.args.a _
    (by_fetch c.args.arena.now.links.spare
    (last_at (rows_of c.args.table.now c.args.arena.now) c.args.a) c.args.a) _ _
    (sym c.in-Ok.ensures ∙ ap (λ x. Ok x) c.in-Clashed.is) (record { of_cells = tt; of_nodes = tt })

pub returns-in_default-clause-places : goal.returns-in_default-clause-places
returns-in_default-clause-places c =
    let added = c.touch_ends.ensures in
    HasPlaces-ok I c.args.table.now c.args.arena.now c.args.a _
    (by_fetch c.args.arena.now.links.spare
    (last_at (rows_of c.args.table.now c.args.arena.now) c.args.a) c.args.a) _ _ (sym c.in-Ok.ensures)
    (fetch-open c.args.table.now c.args.arena.now c.requires c.args.a _ _
    (added.kept _ c.touch_cell.ensures.cell) added.spare added.last c.in-Ok.cell c.in_default.not-Full c.in_default.not-Clashed)

pub returns-in_default-clause-few : goal.returns-in_default-clause-few
returns-in_default-clause-few c =
    let most = most-ok I c.args.table.now c.args.arena.now c.args.a (λ state. 3) _ (sym c.in-Ok.ensures) in
    omega arith
