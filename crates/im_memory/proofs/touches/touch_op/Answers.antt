use Rattle.im_types.specs.Types.{I, M, fetch, store, take_from, put}
use Rattle.im_memory.proofs.CoverLemmas.{fetch-tells, no_cell, put-tells, store-tells, take-tells}
use Rattle.im_memory.proofs.touches.touch_op.Goals as goal

pub returns-in-Fetch-clause-alone : goal.returns-in-Fetch-clause-alone
returns-in-Fetch-clause-alone c =
    rw c.in-Fetch.is (λ who e.
    let found = no_cell I c.args.table.now c.args.arena.now c.in-Fetch.a (fetch who) (fetch-tells who) e in
    c.touch_fetch.ensures.refused found.0 found.1)

pub returns-in-Store-clause-alone : goal.returns-in-Store-clause-alone
returns-in-Store-clause-alone c =
    rw c.in-Store.is (λ who e.
    let found = no_cell I c.args.table.now c.args.arena.now c.in-Store.a (store c.in-Store.field-1)
    (store-tells c.in-Store.field-1) e in
    c.touch_store.ensures.refused found.0 found.1)

pub returns-in-Take-clause-alone : goal.returns-in-Take-clause-alone
returns-in-Take-clause-alone c =
    rw c.in-Take.is (λ who e.
    let found = no_cell M c.args.table.now c.args.arena.now c.in-Take.a (take_from who) (take-tells who) e in
    c.touch_take.ensures.refused found.0 found.1)

pub returns-in-Put-clause-alone : goal.returns-in-Put-clause-alone
returns-in-Put-clause-alone c =
    rw c.in-Put.is (λ who e.
    let found = no_cell M c.args.table.now c.args.arena.now c.in-Put.a (put c.in-Put.field-1)
    (put-tells c.in-Put.field-1) e in
    c.touch_put.ensures.refused found.0 found.1)

pub returns-in-Store-clause-places : goal.returns-in-Store-clause-places
returns-in-Store-clause-places c = rw c.in-Store.is (c.touch_store.ensures.places c.in-Store.field-1)

pub returns-in-Store-clause-sessions : goal.returns-in-Store-clause-sessions
returns-in-Store-clause-sessions c = rw c.in-Store.is (λ who. c.touch_store.ensures.sessions c.in-Store.field-1)

pub returns-in-Store-clause-few : goal.returns-in-Store-clause-few
returns-in-Store-clause-few c = rw c.in-Store.is (c.touch_store.ensures.few c.in-Store.field-1)

pub returns-in-Put-clause-places : goal.returns-in-Put-clause-places
returns-in-Put-clause-places c = rw c.in-Put.is (c.touch_put.ensures.places c.in-Put.field-1)

pub returns-in-Put-clause-sessions : goal.returns-in-Put-clause-sessions
returns-in-Put-clause-sessions c = rw c.in-Put.is (λ who. c.touch_put.ensures.sessions c.in-Put.field-1)

pub returns-in-Put-clause-few : goal.returns-in-Put-clause-few
returns-in-Put-clause-few c = rw c.in-Put.is (c.touch_put.ensures.few c.in-Put.field-1)
