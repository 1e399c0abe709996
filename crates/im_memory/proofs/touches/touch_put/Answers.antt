use Rattle.std.proofs.Common.{◌≡◌, [], length, Ok, sym, refl, ap, ◌∙◌, arith}
use Rattle.im_types.specs.Types.{M, Empty as IsEmpty, CellWaiting as Waiting, put}
use Rattle.im_pages.specs.Places.{page_of_session}
use Rattle.im_memory.proofs.CoverLemmas.{HasPlaces-err, HasPlaces-ok, most-ok, nobody, other-cell, put-taker}
use Rattle.im_memory.proofs.CoverLemmas.{quiet-cell, quiet-state, resumed-err, resumed-ok, somebody, told-none}
use Rattle.im_memory.proofs.CoverLemmas.{told-taker}
use Rattle.im_memory.specs.{State.rows_of, Touched.by_put, Touched.first_at}
use Rattle.im_memory.proofs.touches.touch_put.Goals as goal

pub returns-in_default-clause-places : goal.returns-in_default-clause-places
returns-in_default-clause-places c = λ value. HasPlaces-err M c.args.table.now c.args.arena.now c.args.a _
    (by_put (first_at (rows_of c.args.table.now c.args.arena.now) c.args.a) c.args.a) _ _ (sym c.in_default.ensures)

pub returns-in_default-clause-sessions : goal.returns-in_default-clause-sessions
returns-in_default-clause-sessions c = λ value.
    told-none (page_of_session (length c.args.arena.now.held.lists) c.args.elements) _ _
    (resumed-err M c.args.table.now c.args.arena.now c.args.a (put value) _ (sym c.in_default.ensures))

pub returns-in_default-clause-few : goal.returns-in_default-clause-few
returns-in_default-clause-few c = λ value. omega arith

pub returns-in-Waiting-clause-places : goal.returns-in-Waiting-clause-places
returns-in-Waiting-clause-places c = λ value.
    HasPlaces-ok M c.args.table.now c.args.arena.now c.args.a _
    (by_put (first_at (rows_of c.args.table.now c.args.arena.now) c.args.a) c.args.a) _ Waiting
    (sym c.in-Ok.ensures ∙ ap (λ x. Ok x) c.in-Waiting.is)
    (put-taker c.args.table.now c.args.arena.now c.requires c.args.a _ _
    (c.touch_taker.ensures.kept _ c.touch_cell.ensures.cell) c.touch_taker.ensures.node)

pub returns-in-Waiting-clause-sessions : goal.returns-in-Waiting-clause-sessions
returns-in-Waiting-clause-sessions c = λ value.
    let waits = sym c.in-Ok.ensures ∙ ap (λ x. Ok x) c.in-Waiting.is in
    let some = somebody M c.args.table.now c.args.arena.now c.args.a waits c.requires in
    let told = resumed-ok M c.args.table.now c.args.arena.now c.args.a (put value) Waiting waits
    ∙ ap (λ ws. (put value (IsEmpty ws)).resumed) some.2 in
    told-taker (page_of_session
    (length c.args.arena.now.held.lists) c.args.elements) _ _ some.0 some.1 value told
    (c.touch_taker.ensures.session some.0 some.1 some.2)

pub returns-in-Waiting-clause-few : goal.returns-in-Waiting-clause-few
returns-in-Waiting-clause-few c = λ value.
    let most = most-ok M c.args.table.now c.args.arena.now c.args.a (λ state. 3) _ (sym c.in-Ok.ensures) in
    omega arith

pub returns-in_default-cell-clause-places : goal.returns-in_default-cell-clause-places
returns-in_default-cell-clause-places c = λ value.
    let none = nobody M c.args.table.now c.args.arena.now c.args.a c.in-Ok.cell (sym c.in-Ok.ensures) c.requires
    (quiet-cell c.in-Ok.cell c.in_default-cell.not-Waiting) in
    HasPlaces-ok M c.args.table.now c.args.arena.now c.args.a _
    (by_put (first_at (rows_of c.args.table.now c.args.arena.now) c.args.a) c.args.a) _ _ (sym c.in-Ok.ensures)
    (other-cell c.args.table.now c.args.arena.now c.requires c.args.a _ _ c.touch_cell.ensures.cell
    (by_put (first_at (rows_of c.args.table.now c.args.arena.now) c.args.a) c.args.a) refl (λ v. refl)
    (λ v. refl) c.in-Ok.cell c.in_default-cell.not-Waiting none)

pub returns-in_default-cell-clause-sessions : goal.returns-in_default-cell-clause-sessions
returns-in_default-cell-clause-sessions c = λ value.
    let none = nobody M c.args.table.now c.args.arena.now c.args.a c.in-Ok.cell (sym c.in-Ok.ensures) c.requires
    (quiet-cell c.in-Ok.cell c.in_default-cell.not-Waiting) in
    let told = resumed-ok M c.args.table.now c.args.arena.now c.args.a (put value) c.in-Ok.cell
    (sym c.in-Ok.ensures)
    ∙ quiet-state (λ state. (put value state).resumed
    ≡ []) c.in-Ok.cell _ c.in_default-cell.not-Waiting none refl (λ v. refl) (λ v. refl) in
    told-none (page_of_session (length c.args.arena.now.held.lists) c.args.elements) _ _ told

pub returns-in_default-cell-clause-few : goal.returns-in_default-cell-clause-few
returns-in_default-cell-clause-few c = λ value.
    let most = most-ok M c.args.table.now c.args.arena.now c.args.a (λ state. 3) _ (sym c.in-Ok.ensures) in
    omega arith
