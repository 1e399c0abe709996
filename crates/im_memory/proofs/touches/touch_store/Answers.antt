use Rattle.std.proofs.Common.{◌≡◌, [], length, Ok, sym, refl, ap, ◌∙◌, arith}
use Rattle.im_types.specs.Types.{I, CellWaiting as Waiting, store}
use Rattle.{im_pages.specs.Places.page_of_session, im_arena.specs.Lists.list_at}
use Rattle.im_memory.proofs.CoverLemmas.{HasPlaces-err, HasPlaces-ok, most-ok, nobody, other-cell, quiet-cell}
use Rattle.im_memory.proofs.CoverLemmas.{quiet-state, resumed-err, resumed-ok, store-readers, told-none, told-readers}
use Rattle.im_memory.specs.{Covering.most_by_store, State.rows_of, Touched.by_store, Touched.first_at}
use Rattle.im_memory.proofs.touches.touch_store.Goals as goal

pub returns-in-Err-clause-places : goal.returns-in-Err-clause-places
returns-in-Err-clause-places c = λ value. HasPlaces-err I c.args.table.now c.args.arena.now c.args.a _
    (by_store c.args.arena.now.links.records
    (first_at (rows_of c.args.table.now c.args.arena.now) c.args.a) c.args.a) _ _ (sym c.in-Err.ensures)

pub returns-in-Err-clause-sessions : goal.returns-in-Err-clause-sessions
returns-in-Err-clause-sessions c = λ value.
    told-none (page_of_session (length c.args.arena.now.held.lists) c.args.elements) _ _
    (resumed-err I c.args.table.now c.args.arena.now c.args.a (store value) _ (sym c.in-Err.ensures))

pub returns-in-Err-clause-few : goal.returns-in-Err-clause-few
returns-in-Err-clause-few c = λ value. omega arith

pub returns-in-Waiting-clause-places : goal.returns-in-Waiting-clause-places
returns-in-Waiting-clause-places c = λ value.
    HasPlaces-ok I c.args.table.now c.args.arena.now c.args.a _
    (by_store c.args.arena.now.links.records
    (first_at (rows_of c.args.table.now c.args.arena.now) c.args.a) c.args.a) _ Waiting
    (sym c.in-Ok.ensures ∙ ap (λ x. Ok x) c.in-Waiting.is)
    (store-readers c.args.table.now c.args.arena.now c.requires.agree c.args.a _ _
    (c.touch_readers.ensures.kept _ c.touch_cell.ensures.cell) c.touch_readers.ensures.nodes)

pub returns-in-Waiting-clause-sessions : goal.returns-in-Waiting-clause-sessions
returns-in-Waiting-clause-sessions c = λ value.
    let told = resumed-ok I c.args.table.now c.args.arena.now c.args.a (store value) Waiting
    (sym c.in-Ok.ensures ∙ ap (λ x. Ok x) c.in-Waiting.is) in
    told-readers (page_of_session (length c.args.arena.now.held.lists) c.args.elements) _ _
    (list_at c.args.arena.now.held c.args.a) value told c.touch_readers.ensures.sessions

pub returns-in-Waiting-clause-few : goal.returns-in-Waiting-clause-few
returns-in-Waiting-clause-few c = λ value.
    let most = most-ok I c.args.table.now c.args.arena.now c.args.a most_by_store Waiting
    (sym c.in-Ok.ensures ∙ ap (λ x. Ok x) c.in-Waiting.is) in
    omega arith

pub returns-in_default-clause-places : goal.returns-in_default-clause-places
returns-in_default-clause-places c = λ value.
    let none = nobody I c.args.table.now c.args.arena.now c.args.a c.in-Ok.cell
    (sym c.in-Ok.ensures) c.requires.agree (quiet-cell c.in-Ok.cell c.in_default.not-Waiting) in
    HasPlaces-ok I c.args.table.now c.args.arena.now c.args.a _
    (by_store c.args.arena.now.links.records
    (first_at (rows_of c.args.table.now c.args.arena.now) c.args.a) c.args.a) _ _ (sym c.in-Ok.ensures)
    (other-cell c.args.table.now c.args.arena.now c.requires.agree c.args.a _ _ c.touch_cell.ensures.cell
    (by_store c.args.arena.now.links.records
    (first_at (rows_of c.args.table.now c.args.arena.now) c.args.a) c.args.a) refl (λ v. refl)
    (λ v. refl) c.in-Ok.cell c.in_default.not-Waiting none)

pub returns-in_default-clause-sessions : goal.returns-in_default-clause-sessions
returns-in_default-clause-sessions c = λ value.
    let none = nobody I c.args.table.now c.args.arena.now c.args.a c.in-Ok.cell
    (sym c.in-Ok.ensures) c.requires.agree (quiet-cell c.in-Ok.cell c.in_default.not-Waiting) in
    let told = resumed-ok I c.args.table.now c.args.arena.now c.args.a (store value) c.in-Ok.cell
    (sym c.in-Ok.ensures)
    ∙ quiet-state (λ state. (store value state).resumed
    ≡ []) c.in-Ok.cell _ c.in_default.not-Waiting none refl (λ v. refl) (λ v. refl) in
    told-none (page_of_session (length c.args.arena.now.held.lists) c.args.elements) _ _ told

pub returns-in_default-clause-few : goal.returns-in_default-clause-few
returns-in_default-clause-few c = λ value.
    let none = nobody I c.args.table.now c.args.arena.now c.args.a c.in-Ok.cell
    (sym c.in-Ok.ensures) c.requires.agree (quiet-cell c.in-Ok.cell c.in_default.not-Waiting) in
    let most = most-ok I c.args.table.now c.args.arena.now c.args.a most_by_store c.in-Ok.cell
    (sym c.in-Ok.ensures)
    ∙ quiet-state (λ state. most_by_store state ≡ 1) c.in-Ok.cell _ c.in_default.not-Waiting none refl
    (λ v. refl) (λ v. refl) in
    omega arith
