-- Those that an operation resumes wait until they are answered.
use Rattle.std.proofs.Common.{◌≡◌, ℕ, suc, ◌≤◌, Bool, true, false, cond, List, [], ◌∷◌, map, take, drop, ◌==◌, Some}
use Rattle.std.proofs.Common.{None, Ok, Option, sym, refl, ap, ◌∙◌, subst, ⊎_elim, arith}
use Rattle.std.specs.List.{list_any}
use Rattle.im_types.specs.Types.{Entry, Kind, Op, Reply, Waiter, Block, Kept, Waiting, Answered, I, M, Alloc, Release}
use Rattle.im_types.specs.Types.{Reset, Fetch, Store, Take, Put, BadLength, Value, Stored, WrongKind, Released}
use Rattle.im_types.specs.Types.{StillWaiting, Cleared, Request, CellState, Empty, Full, Clashed, Held, Window, held_at}
use Rattle.im_types.specs.Types.{waiters_of, kept_for, same_waiter, times, awaiting, waits_for, WaitersAgree, place}
use Rattle.im_types.specs.Types.{fill, change_each, ServedCell as Served, fetch, store, take_from, put, Acted}
use Rattle.im_types.specs.Types.{only_tells, same_kind, serve_cell, at_cell, allocate_at, allocate, block_with_base}
use Rattle.im_types.specs.Types.{is_waiting_cell, unless_waited_for, release_block, emptied, reset_block, act, note}
use Rattle.im_types.specs.Types.{answer, is_waiting, ask, asker}
use Rattle.im_laws.proofs.AgreementLemmas.{listed_at, same_waiter-equal, same_waiter-self, waits_for-kept}
use Rattle.im_laws.proofs.StepAgrees.{one_if-most, one_if-true, times-first}
use Rattle.im_laws.proofs.StepLemmas.{answer-other, IsNext, kept_for-next}
use Rattle.im_laws.proofs.{Tests.some_none, Tests.true_or_false, WindowLemmas.kept_for-note}
use Rattle.{im_arena.specs.Lists.list_at, im_arena.specs.Lists.Shown, im_sessions.proofs.WindowsLemmas.ask-waiting}
use Rattle.im_istore.{proofs.Draining.IsOff, specs.Access.replies_to}
use Rattle.im_memory.specs.Resuming.{AreAwaited}

-- the first reader of a list is answered, and is off it
module _ (arena new : Shown) (a : ℕ) (reader : Waiter) (off : IsOff arena new a reader) (windows : List Window)
    (value : ℕ) where
  module _ (awaited : AreAwaited windows (replies_to (list_at arena.held a) value)) where
    both : AreAwaited windows (replies_to (reader ∷ list_at new.held a) value)
    both = subst (λ readers. AreAwaited windows (replies_to readers value)) off.front awaited

    pub first-awaited : ask windows reader ≡ Ok Waiting
    first-awaited = both.0

    pub others-awaited : AreAwaited (answer windows reader (Value value)) (replies_to (list_at new.held a) value)
    others-awaited = both.1

-- the entry of each of these waits
abbrev AllWait : List Window → List Waiter → Type 0
AllWait windows waiters = (who : Waiter) → 1 ≤ times who waiters → (k : Kept) × (kept_for windows who ≡ Some k)
    × (is_waiting k ≡ true)

-- none of these is there twice
abbrev AreApart : List Waiter → Type 0
AreApart waiters = (who : Waiter) → times who waiters ≤ 1

pub times-same : (who other : Waiter) (others : List Waiter) → same_waiter who other ≡ true
    → times who (other ∷ others) ≡ suc (times who others)
times-same who other others e = ap (λ b. cond b (suc (times who others)) (times who others)) e

pub times-more : (who other : Waiter) (others : List Waiter) → times who others ≤ times who (other ∷ others)
times-more who other others = by_test (same_waiter who other)
  where
    by_test : (b : Bool) → times who others ≤ cond b (suc (times who others)) (times who others)
    by_test true = let h : times who others ≤ suc (times who others) = omega arith in h
    by_test false = let h : times who others ≤ times who others = omega arith in h

waiting-awaited : (windows : List Window) (waiters : List Waiter) (reply : Reply) → AllWait windows waiters
    → AreApart waiters → AreAwaited windows (map (λ w. (w, reply)) waiters)
waiting-awaited windows [] reply wait apart = tt
waiting-awaited windows (first ∷ waiters) reply wait apart =
    let k = wait first (omega (arith, times-same first first waiters (same_waiter-self first))) in (
      ask-waiting windows first k.0 k.1 k.2,
      waiting-awaited (answer windows first reply) waiters reply
          (λ who h. ⊎_elim
          (λ e. absurd (omega (arith, h, apart who, times-same who first waiters e)))
          (λ e. let j = wait who (omega (arith, h, times-more who first waiters)) in
          (j.0, answer-other windows first reply k.0 k.1 who e ∙ j.1, j.2))
          (true_or_false (same_waiter who first)))
          (λ who. omega (arith, apart who, times-more who first waiters)),
    )

-- a new request on a memory in which who waits agrees
module _ (windows : List Window) (cells : List (Option Held)) (r : Request) (fresh : IsNext windows r)
    (agrees : WaitersAgree cells (kept_for windows)) where
  -- once the request is noted, those that it resumes wait
  abbrev AreReady : Acted → Type 0
  AreReady acted = AreAwaited (note windows r acted.entry) acted.resumed

  -- a request that was kept before is another one, and stays as it is
  stays_noted : (entry : Entry) (who : Waiter) (k : Kept) → kept_for windows who ≡ Some k
      → kept_for (note windows r entry) who ≡ Some k
  stays_noted entry who k is =
      let other : same_waiter who (asker r) ≡ false = ⊎_elim
      (λ e. absurd (some_none k
      (sym is ∙ ap (kept_for windows) (same_waiter-equal who (asker r) e) ∙ kept_for-next windows r fresh)))
      (λ e. e)
      (true_or_false (same_waiter who (asker r))) in
      kept_for-note windows r entry fresh.window who fresh.there fresh.next
      ∙ ap (λ b. cond b (Some (record { op = r.op; entry = entry })) (kept_for windows who)) other ∙ is

  -- some of those that wait at a cell are given a reply
  given-ready : (a : ℕ) (held : Held) → held_at cells a ≡ Some held → (told given : Reply) (answered : List Waiter)
      → ((who : Waiter) → times who answered ≤ times who (waiters_of held.state))
      → AreAwaited (note windows r (Answered told)) (map (λ w. (w, given)) answered)
  given-ready a held at told given answered some =
      waiting-awaited (note windows r (Answered told)) answered given
      (λ who h.
      let k = waits_for-kept held.block.kind a (kept_for windows who)
      (one_if-true _ (omega (arith, h, some who, listed_at cells (kept_for windows) agrees a held at who))) in
      (k.0, stays_noted (Answered told) who k.0 k.1, k.2))
      (λ who. omega (
        arith,
        some who,
        listed_at cells (kept_for windows) agrees a held at who,
        one_if-most
            (waits_for (awaiting held.block.kind a) (kept_for windows who)),
      ))

  by_cell : (kind : Kind) (f : CellState → Served) (a : ℕ)
      → ((held : Held) → held_at cells a ≡ Some held → AreReady (serve_cell cells a held.block (f held.state)))
      → AreReady (at_cell kind f cells a (held_at cells a))
  by_cell kind f a served = by_held (held_at cells a) refl
    where
      by_kind : (held : Held) → held_at cells a ≡ Some held → (b : Bool)
          → AreReady (cond b (serve_cell cells a held.block (f held.state)) (only_tells cells WrongKind))
      by_kind held at true = served held at
      by_kind held at false = tt

      by_held : (o : Option Held) → held_at cells a ≡ o → AreReady (at_cell kind f cells a o)
      by_held None at = tt
      by_held (Some held) at = by_kind held at (same_kind kind held.block.kind)

  fetch-ready : (a : ℕ) (held : Held) → AreReady (serve_cell cells a held.block (fetch (asker r) held.state))
  fetch-ready a held = by_state held.state
    where
      by_state : (s : CellState) → AreReady (serve_cell cells a held.block (fetch (asker r) s))
      by_state (Empty waiters) = tt
      by_state (Full v) = tt
      by_state (Clashed v) = tt

  take-ready : (a : ℕ) (held : Held) → AreReady (serve_cell cells a held.block (take_from (asker r) held.state))
  take-ready a held = by_state held.state
    where
      by_state : (s : CellState) → AreReady (serve_cell cells a held.block (take_from (asker r) s))
      by_state (Empty waiters) = tt
      by_state (Full v) = tt
      by_state (Clashed v) = tt

  store-ready : (a v : ℕ) (held : Held) → held_at cells a ≡ Some held
      → AreReady (serve_cell cells a held.block (store v held.state))
  store-ready a v held at = by_state held.state refl
    where
      by_state : (s : CellState) → held.state ≡ s → AreReady (serve_cell cells a held.block (store v s))
      by_state (Empty readers) is = given-ready a held at Stored (Value v) readers
          (λ who. omega (arith, ap (λ s. times who (waiters_of s)) is))
      by_state (Full w) is = tt
      by_state (Clashed w) is = tt

  put-ready : (a v : ℕ) (held : Held) → held_at cells a ≡ Some held
      → AreReady (serve_cell cells a held.block (put v held.state))
  put-ready a v held at = by_state held.state refl
    where
      by_state : (s : CellState) → held.state ≡ s → AreReady (serve_cell cells a held.block (put v s))
      by_state (Empty []) is = tt
      by_state (Empty (taker ∷ takers)) is =
          given-ready a held at Stored (Value v) (taker ∷ [])
          (λ who. omega (arith, ap (λ s. times who (waiters_of s)) is, times-first who taker takers))
      by_state (Full w) is = tt
      by_state (Clashed w) is = tt

  allocate-ready : (kind : Kind) (n : ℕ) → AreReady (allocate cells kind n)
  allocate-ready kind n = by_test (n == 0)
    where
      by_place : (o : Option ℕ) → AreReady (allocate_at cells kind n o)
      by_place None = tt
      by_place (Some base) = tt

      by_test : (b : Bool) → AreReady (cond b (only_tells cells BadLength) (allocate_at cells kind n (place n cells)))
      by_test true = tt
      by_test false = by_place (place n cells)

  whole-ready : (after : Block → List (Option Held)) (reply : Reply) (a : ℕ) (o : Option Block)
      → AreReady (unless_waited_for after reply cells a o)
  whole-ready after reply a None = tt
  whole-ready after reply a (Some block) = by_test (list_any is_waiting_cell (take block.length (drop a cells)))
    where
      by_test : (b : Bool)
          → AreReady (cond b (only_tells cells StillWaiting)
          (record { cells = after block; entry = Answered reply; resumed = [] }))
      by_test true = tt
      by_test false = tt

  op-ready : (op : Op) → AreReady (act cells (asker r) op)
  op-ready (Alloc kind n) = allocate-ready kind n
  op-ready (Release a) = whole-ready (λ block. fill cells a block.length None) Released a
      (block_with_base a (held_at cells a))
  op-ready (Reset a) = whole-ready (λ block. change_each emptied cells a block.length) Cleared a
      (block_with_base a (held_at cells a))
  op-ready (Fetch a) = by_cell I (fetch (asker r)) a (λ held at. fetch-ready a held)
  op-ready (Store a v) = by_cell I (store v) a (store-ready a v)
  op-ready (Take a) = by_cell M (take_from (asker r)) a (λ held at. take-ready a held)
  op-ready (Put a v) = by_cell M (put v) a (put-ready a v)

  pub act-ready : AreAwaited (note windows r (act cells (asker r) r.op).entry) (act cells (asker r) r.op).resumed
  act-ready = op-ready r.op
