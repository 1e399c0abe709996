-- Who waits behind whom, and who is answered.
use Rattle.std.proofs.Common.{◌≡◌, ℕ, ◌≤◌, Bool, true, false, cond, List, [], ◌∷◌, ◌++◌, take, drop, set, ◌==◌, Some}
use Rattle.std.proofs.Common.{None, Ok, Option, Result, sym, refl, ap, ◌∙◌, subst, arith, get_or-set_same}
use Rattle.std.specs.List.{list_any}
use Rattle.im_types.specs.Types.{Entry, Kind, Op, Reply, Waiter, Block, Kept, Waiting, Answered, I, M, Alloc, Release}
use Rattle.im_types.specs.Types.{Reset, Fetch, Store, Take, Put, Base, NoSpace, BadLength, Value, Stored, Clash, NoCell}
use Rattle.im_types.specs.Types.{WrongKind, Released, NoBlock, StillWaiting, Cleared, Request, Outcome, Asks, Tells}
use Rattle.im_types.specs.Types.{Refusal, CellState, Empty, Full, Clashed, Held, Contents, held_at, waiters_of}
use Rattle.im_types.specs.Types.{waiters_in, waiters_at, kept_for, times, awaiting, address_of, WaitingAgrees, place}
use Rattle.im_types.specs.Types.{fill, change_each, ServedCell as Served, fetch, store, take_from, put, only_tells}
use Rattle.im_types.specs.Types.{same_kind, serve_cell, at_cell, allocate_at, allocate, block_with_base}
use Rattle.im_types.specs.Types.{is_waiting_cell, unless_waited_for, emptied, act, Stepped, asker, serve, step_request}
use Rattle.im_types.specs.Types.{step}
use Rattle.im_laws.proofs.{AcceptLemmas.accepted-fresh, OpLemmas.same_kind-self, StepAgrees.resumed-given}
use Rattle.im_laws.proofs.{StepAgrees.times-first, StepLemmas.IsNext, StepLemmas.judge-fresh, Tests.some_same}
use Rattle.im_laws.proofs.AgreementLemmas.{held_at-within, same_waiter-self}
use Rattle.im_laws.proofs.WaiterLemmas.{waiting-WaitsAt, WaitsAt-listed}
use Rattle.im_laws.specs.Requests.{after_request, IsNew, IsServed}

-- a new request is served
pub new-served : (m : Contents) (r : Request) (op : Op) → IsNew m r op → step m (Asks r)
    ≡ serve m r (act m.cells (asker r) op)
new-served m r op n = ap (step_request m r) (accepted-fresh m r n.accepted)
    ∙ ap (λ op. serve m r (act m.cells (asker r) op)) n.asks

-- one that is for the kind of its cell, by that cell
at_cell-served : (kind : Kind) (f : CellState → Served) (cells : List (Option Held)) (a : ℕ) (held : Held)
    → held_at cells a ≡ Some held
    → held.block.kind ≡ kind
    → at_cell kind f cells a (held_at cells a) ≡ serve_cell cells a held.block (f held.state)
at_cell-served kind f cells a held at is =
    ap (at_cell kind f cells a) at
    ∙ ap (λ b. cond b (serve_cell cells a held.block (f held.state)) (only_tells cells WrongKind))
    (ap (same_kind kind) is ∙ same_kind-self kind)

-- a fetch waits at an I cell, a take at an M cell
fetch_kind : (kind : Kind) (a : ℕ) → awaiting kind a ≡ Fetch a → kind ≡ I
fetch_kind I a e = refl
fetch_kind M a e = absurd (cc)

take_kind : (kind : Kind) (a : ℕ) → awaiting kind a ≡ Take a → kind ≡ M
take_kind I a e = absurd (cc)
take_kind M a e = refl

-- what is kept for who waits, with a reply
abbrev with_reply : Op → Reply → Option Kept
with_reply op reply = Some (record { op = op; entry = Answered reply })

-- a store answers each reader
pub store-answers : (m : Contents) (r : Request) (a v : ℕ) (reader : Waiter) → WaitingAgrees m → IsNew m r (Store a v)
    → kept_for m.windows reader ≡ Some (record { op = Fetch a; entry = Waiting })
    → kept_for (after_request m r).windows reader ≡ Some (record { op = Fetch a; entry = Answered (Value v) })
store-answers m r a v reader agrees new is =
    let w = waiting-WaitsAt m agrees reader (record { op = Fetch a; entry = Waiting }) is refl in
    let kind = fetch_kind w.held.block.kind a (ap (λ (k : Kept). k.op) (some_same _ _ (sym w.waits ∙ is))) in
    ap (λ (s : Stepped). kept_for s.contents.windows reader)
    (new-served m r (Store a v) new ∙ ap (serve m r) (at_cell-served I (store v) m.cells a w.held w.there kind))
    ∙ by_state w.held w.there w.held.state refl
    (subst (λ o. 1 ≤ times reader (waiters_in o)) w.there (WaitsAt-listed m agrees reader a w))
  where
    n : IsNext m.windows r
    n = judge-fresh m.windows r (accepted-fresh m r new.accepted)

    by_state : (held : Held) → held_at m.cells a ≡ Some held → (s : CellState) → held.state ≡ s
        → 1 ≤ times reader (waiters_of s)
        → kept_for (serve m r (serve_cell m.cells a held.block (store v s))).contents.windows reader
        ≡ with_reply (Fetch a) (Value v)
    by_state held at (Empty readers) s some =
        resumed-given m.windows m.cells r n agrees a held at (Full v) readers Stored (Value v)
        (λ who. let same = ap (λ s. times who (waiters_of s)) s in omega arith) reader
        (record { op = Fetch a; entry = Waiting }) is some
    by_state held at (Full w) s some = absurd (omega arith)
    by_state held at (Clashed w) s some = absurd (omega arith)

-- a put answers the first taker, and the others wait on
pub record IsHandedOn (m : Contents) (r : Request) (a v : ℕ) (first : Waiter) (others : List Waiter) : Type 0 where
  pub answered : kept_for (after_request m r).windows first ≡ Some (record { op = Take a; entry = Answered (Value v) })
  pub rest : waiters_at (after_request m r).cells a ≡ others

waiters-written : (cells : List (Option Held)) (a : ℕ) (held : Held) (block : Block) (new : CellState)
    → held_at cells a ≡ Some held
    → waiters_at (set cells a (Some (record { block = block; state = new }))) a ≡ waiters_of new
waiters-written cells a held block new at = ap waiters_in
    (get_or-set_same cells a (Some (record { block = block; state = new })) None (held_at-within cells a held at))

pub put-hands_on : (m : Contents) (r : Request) (a v : ℕ) (first : Waiter) (others : List Waiter) → WaitingAgrees m
    → IsNew m r (Put a v)
    → waiters_at m.cells a ≡ first ∷ others → kept_for m.windows first ≡ Some (record { op = Take a; entry = Waiting })
    → IsHandedOn m r a v first others
put-hands_on m r a v first others agrees new list is =
    let w = waiting-WaitsAt m agrees first (record { op = Take a; entry = Waiting }) is refl in
    let kind = take_kind w.held.block.kind a (ap (λ (k : Kept). k.op) (some_same _ _ (sym w.waits ∙ is))) in
    let served = new-served m r (Put a v) new
    ∙ ap (serve m r) (at_cell-served M (put v) m.cells a w.held w.there kind) in
    let after = by_state w.held w.there w.held.state refl (sym (ap waiters_in w.there) ∙ list) in
    record {
      answered = ap (λ (s : Stepped). kept_for s.contents.windows first) served ∙ after.0;
      rest = ap (λ (s : Stepped). waiters_at s.contents.cells a) served ∙ after.1;
    }
  where
    n : IsNext m.windows r
    n = judge-fresh m.windows r (accepted-fresh m r new.accepted)

    by_state : (held : Held) → held_at m.cells a ≡ Some held → (s : CellState) → held.state ≡ s → waiters_of s
        ≡ first ∷ others
        → let now = (serve m r (serve_cell m.cells a held.block (put v s))).contents in
        (kept_for now.windows first ≡ with_reply (Take a) (Value v)) × (waiters_at now.cells a ≡ others)
    by_state held at (Empty []) s list = absurd (cc)
    by_state held at (Empty (taker ∷ takers)) s list =
        let same : taker ≡ first = cc in
        let rest : takers ≡ others = cc in (
          resumed-given m.windows m.cells r n agrees a held at (Empty takers) (taker ∷ []) Stored (Value v)
              (λ who. ap (λ s. times who (waiters_of s)) s ∙ times-first who taker takers) first
              (record { op = Take a; entry = Waiting }) is
              (let here : times first (taker ∷ []) ≡ 1 = ap (λ who. times first (who ∷ [])) same
              ∙ ap (λ b. cond b 1 0) (same_waiter-self first) in omega arith),
          waiters-written m.cells a held held.block (Empty takers) at ∙ rest,
        )
    by_state held at (Full w) s list = absurd (cc)
    by_state held at (Clashed w) s list = absurd (cc)

-- who is told to wait is put behind the others
answered_waits : (reply : Reply) → Answered reply ≡ Waiting → ⊥
answered_waits reply e = cc

module _ (cells : List (Option Held)) (who : Waiter) where
  -- what an operation on a cell does where it defers
  abbrev Defers : (CellState → Served) → Type 0
  Defers f = (s : CellState) → (f s).entry ≡ Waiting → waiters_of (f s).state ≡ waiters_of s ++ who ∷ []

  at_cell-defers : (kind : Kind) (f : CellState → Served) → Defers f → (a : ℕ)
      → (at_cell kind f cells a (held_at cells a)).entry ≡ Waiting
      → waiters_at (at_cell kind f cells a (held_at cells a)).cells a ≡ waiters_at cells a ++ who ∷ []
  at_cell-defers kind f defers a = by_held (held_at cells a) refl
    where
      by_kind : (held : Held) → held_at cells a ≡ Some held → (b : Bool)
          → (cond b (serve_cell cells a held.block (f held.state)) (only_tells cells WrongKind)).entry ≡ Waiting
          → waiters_at (cond b (serve_cell cells a held.block (f held.state)) (only_tells cells WrongKind)).cells a
          ≡ waiters_of held.state ++ who ∷ []
      by_kind held at true waits = waiters-written cells a held held.block (f held.state).state at
          ∙ defers held.state waits
      by_kind held at false waits = absurd (answered_waits WrongKind waits)

      by_held : (o : Option Held) → held_at cells a ≡ o → (at_cell kind f cells a o).entry ≡ Waiting
          → waiters_at (at_cell kind f cells a o).cells a ≡ waiters_in o ++ who ∷ []
      by_held None at waits = absurd (answered_waits NoCell waits)
      by_held (Some held) at waits = by_kind held at (same_kind kind held.block.kind) waits

  fetch-defers : Defers (fetch who)
  fetch-defers (Empty waiters) waits = refl
  fetch-defers (Full v) waits = absurd (answered_waits (Value v) waits)
  fetch-defers (Clashed v) waits = absurd (answered_waits Clash waits)

  take-defers : Defers (take_from who)
  take-defers (Empty waiters) waits = refl
  take-defers (Full v) waits = absurd (answered_waits (Value v) waits)
  take-defers (Clashed v) waits = absurd (answered_waits Clash waits)

  store-defers : (v : ℕ) → Defers (store v)
  store-defers v (Empty readers) waits = absurd (answered_waits Stored waits)
  store-defers v (Full w) waits = absurd (answered_waits Clash waits)
  store-defers v (Clashed w) waits = absurd (answered_waits Clash waits)

  put-defers : (v : ℕ) → Defers (put v)
  put-defers v (Empty []) waits = absurd (answered_waits Stored waits)
  put-defers v (Empty (taker ∷ takers)) waits = absurd (answered_waits Stored waits)
  put-defers v (Full w) waits = absurd (answered_waits Clash waits)
  put-defers v (Clashed w) waits = absurd (answered_waits Clash waits)

  allocate-told : (kind : Kind) (n : ℕ) → (allocate cells kind n).entry ≡ Waiting → ⊥
  allocate-told kind n = by_test (n == 0)
    where
      by_place : (o : Option ℕ) → (allocate_at cells kind n o).entry ≡ Waiting → ⊥
      by_place None waits = answered_waits NoSpace waits
      by_place (Some base) waits = answered_waits (Base base) waits

      by_test : (b : Bool) → (cond b (only_tells cells BadLength) (allocate_at cells kind n (place n cells))).entry
          ≡ Waiting → ⊥
      by_test true waits = answered_waits BadLength waits
      by_test false waits = by_place (place n cells) waits

  whole-told : (after : Block → List (Option Held)) (reply : Reply) (a : ℕ) (o : Option Block)
      → (unless_waited_for after reply cells a o).entry ≡ Waiting → ⊥
  whole-told after reply a None waits = answered_waits NoBlock waits
  whole-told after reply a (Some block) waits = by_test
      (list_any is_waiting_cell (take block.length (drop a cells))) waits
    where
      by_test : (b : Bool)
          → (cond b (only_tells cells StillWaiting)
          (record { cells = after block; entry = Answered reply; resumed = [] })).entry ≡ Waiting → ⊥
      by_test true waits = answered_waits StillWaiting waits
      by_test false waits = answered_waits reply waits

  act-defers : (op : Op) → (act cells who op).entry ≡ Waiting
      → waiters_at (act cells who op).cells (address_of op) ≡ waiters_at cells (address_of op) ++ who ∷ []
  act-defers (Alloc kind n) waits = absurd (allocate-told kind n waits)
  act-defers (Release a) waits = absurd
      (whole-told (λ block. fill cells a block.length None) Released a (block_with_base a (held_at cells a)) waits)
  act-defers (Reset a) waits = absurd
      (whole-told (λ block. change_each emptied cells a block.length) Cleared a
      (block_with_base a (held_at cells a)) waits)
  act-defers (Fetch a) waits = at_cell-defers I (fetch who) fetch-defers a waits
  act-defers (Store a v) waits = at_cell-defers I (store v) (store-defers v) a waits
  act-defers (Take a) waits = at_cell-defers M (take_from who) take-defers a waits
  act-defers (Put a v) waits = at_cell-defers M (put v) (put-defers v) a waits

-- what a new request is told is what its operation comes to
pub served-entry : (m : Contents) (r : Request) (op : Op) (entry : Entry) → IsServed m r op entry
    → (act m.cells (asker r) op).entry ≡ entry
served-entry m r op entry served =
    same_entry (act m.cells (asker r) op).entry entry
    (sym (ap (λ (s : Stepped). s.answer) (new-served m r op served.is_new)) ∙ served.answered)
  where
    same_entry : (a b : Entry) → ◌≡◌ {A = Result Outcome Refusal} (Ok (Tells a)) (Ok (Tells b)) → a ≡ b
    same_entry a b e = let outcome : Tells a ≡ Tells b = cc in cc

pub step-defers : (m : Contents) (r : Request) (op : Op) → IsServed m r op Waiting
    → waiters_at (after_request m r).cells (address_of op) ≡ waiters_at m.cells (address_of op) ++ asker r ∷ []
step-defers m r op served =
    ap (λ (s : Stepped). waiters_at s.contents.cells (address_of op)) (new-served m r op served.is_new)
    ∙ act-defers m.cells (asker r) op (served-entry m r op Waiting served)
