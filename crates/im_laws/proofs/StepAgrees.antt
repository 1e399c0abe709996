-- Each operation keeps that who waits at a cell is who has a waiting entry.
use Rattle.std.proofs.Common.{◌≡◌, ℕ, zero, suc, ◌+◌, ◌<◌, ◌≤◌, Bool, true, false, cond, ◌⊎◌, List, [], ◌∷◌, ◌++◌, map}
use Rattle.std.proofs.Common.{take, drop, set, ◌==◌, Some, None, Option, option_map, sym, refl, ap, ◌∙◌, subst, inl}
use Rattle.std.proofs.Common.{inr, ⊎_elim, arith}
use Rattle.std.specs.List.{list_any}
use Rattle.im_types.specs.Types.{Entry, Kind, Op, Reply, Waiter, Block, Kept, Waiting, Answered, I, M, Alloc, Release}
use Rattle.im_types.specs.Types.{Reset, Fetch, Store, Take, Put, Base, NoSpace, BadLength, Value, Stored, Clash, NoCell}
use Rattle.im_types.specs.Types.{WrongKind, Released, NoBlock, StillWaiting, Cleared, Request, CellState, Empty, Full}
use Rattle.im_types.specs.Types.{Clashed, Held, Window, held_at, waiters_of, waiters_in, waiters_at, kept_for}
use Rattle.im_types.specs.Types.{same_waiter, times, awaiting, waits_for, waits_in, WaitersAgree, StaysOrIsAnswered}
use Rattle.im_types.specs.Types.{place, fill, change_each, ServedCell as Served, defers, fetch, store, take_from, put}
use Rattle.im_types.specs.Types.{Acted, only_tells, same_kind, serve_cell, at_cell, allocate_at, allocate}
use Rattle.im_types.specs.Types.{block_with_base, has_waiter, is_waiting_cell, unless_waited_for, emptied, act, note}
use Rattle.im_types.specs.Types.{answer_each, is_waiting, asker}
use Rattle.im_laws.proofs.AgreementLemmas.{allocate-agrees, answer-agrees, defer-agrees, IsQuiet, listed_at, no_quiet}
use Rattle.im_laws.proofs.AgreementLemmas.{one_if, release-agrees, reset-agrees, same_waiter-equal, same_waiter-self}
use Rattle.im_laws.proofs.AgreementLemmas.{serve-agrees, waits_for-kept, waits_in-other, waits_in-quiet, with_waiting}
use Rattle.im_laws.proofs.{OpLemmas.same_kind-equal, PlaceLemmas.place-free}
use Rattle.im_laws.proofs.StepLemmas.{AfterAnswers, answer_each-AfterAnswers, answered_quiet, AreKept, IsNext}
use Rattle.im_laws.proofs.StepLemmas.{kept_for-next}
use Rattle.im_laws.proofs.Tests.{or_left, or_right, some_none, some_same, true_or_false, zero_or_more}
use Rattle.im_laws.proofs.WindowLemmas.{answered_kept, kept_for-note}

pub one_if-true : (b : Bool) → 1 ≤ one_if b → b ≡ true
one_if-true true h = refl
one_if-true false h = let k : 1 ≤ 0 = h in absurd (omega arith)

pub one_if-most : (b : Bool) → one_if b ≤ 1
one_if-most true = let k : 1 ≤ 1 = omega arith in k
one_if-most false = let k : 0 ≤ 1 = omega arith in k

answered_is_quiet : (k : Kept) → is_waiting k ≡ false → IsQuiet (Some k)
answered_is_quiet k q x e = let same : k ≡ x = cc in sym (ap is_waiting same) ∙ q

-- the first of some
pub times-first : (who first : Waiter) (others : List Waiter) → times who (first ∷ others)
    ≡ times who (first ∷ []) + times who others
times-first who first others = by_test (same_waiter who first)
  where
    by_test : (b : Bool) → cond b (suc (times who others)) (times who others) ≡ cond b 1 0 + times who others
    by_test true = omega arith
    by_test false = omega arith

-- a block in which no cell is waited for
no_waiters : (o : Option Held) → is_waiting_cell o ≡ false → waiters_in o ≡ []
no_waiters None e = refl
no_waiters (Some held) e = by_state held.state e
  where
    by_state : (s : CellState) → has_waiter s ≡ false → waiters_of s ≡ []
    by_state (Empty []) e = refl
    by_state (Empty (w ∷ ws)) e = absurd (cc)
    by_state (Full v) e = refl
    by_state (Clashed v) e = refl

pub nobody_waits : (cs : List (Option Held)) (base n : ℕ) → list_any is_waiting_cell (take n (drop base cs)) ≡ false
    → (a : ℕ) → base ≤ a
    → a < base + n → waiters_at cs a ≡ []
nobody_waits [] base n e a lo hi = refl
nobody_waits (c ∷ cs) zero zero e a lo hi = absurd (omega arith)
nobody_waits (c ∷ cs) zero (suc n) e zero lo hi = no_waiters c
    (or_left (is_waiting_cell c) (list_any is_waiting_cell (take n cs)) e)
nobody_waits (c ∷ cs) zero (suc n) e (suc a) lo hi = nobody_waits cs zero n
    (or_right (is_waiting_cell c) (list_any is_waiting_cell (take n cs)) e) a (omega arith) (omega arith)
nobody_waits (c ∷ cs) (suc base) n e zero lo hi = absurd (omega arith)
nobody_waits (c ∷ cs) (suc base) n e (suc a) lo hi = nobody_waits cs base n e a (omega arith) (omega arith)

-- a new request on a memory in which who waits agrees
module _ (windows : List Window) (cells : List (Option Held)) (r : Request) (fresh : IsNext windows r)
    (agrees : WaitersAgree cells (kept_for windows)) where
  abbrev before : Waiter → Option Kept
  before = kept_for windows

  noted : (entry : Entry) (who : Waiter)
      → kept_for (note windows r entry) who
      ≡ cond (same_waiter who (asker r)) (Some (record { op = r.op; entry = entry })) (before who)
  noted entry who = kept_for-note windows r entry fresh.window who fresh.there fresh.next

  is_new : (who : Waiter) → same_waiter who (asker r) ≡ true → before who ≡ None
  is_new who e = ap before (same_waiter-equal who (asker r) e) ∙ kept_for-next windows r fresh

  noted_same : (entry : Entry) (who : Waiter) → same_waiter who (asker r) ≡ true
      → kept_for (note windows r entry) who ≡ Some (record { op = r.op; entry = entry })
  noted_same entry who e = noted entry who
      ∙ ap (λ b. cond b (Some (record { op = r.op; entry = entry })) (before who)) e

  noted_other : (entry : Entry) (who : Waiter) → same_waiter who (asker r) ≡ false
      → kept_for (note windows r entry) who ≡ before who
  noted_other entry who e = noted entry who
      ∙ ap (λ b. cond b (Some (record { op = r.op; entry = entry })) (before who)) e

  -- what is kept after an operation
  abbrev pub kept_after : Acted → Waiter → Option Kept
  kept_after acted = kept_for (answer_each (note windows r acted.entry) acted.resumed)

  -- after the operation who waits agrees, what was kept stays or is answered, and the request is kept with what it was told
  pub record AgreesAfter (acted : Acted) : Type 0 where
    pub agreed : WaitersAgree acted.cells (kept_after acted)
    pub keeps : (who : Waiter) (k : Kept) → before who ≡ Some k → StaysOrIsAnswered k (kept_after acted who)
    pub own : kept_after acted (asker r) ≡ Some (record { op = r.op; entry = acted.entry })

  not_new : (who : Waiter) (k : Kept) → before who ≡ Some k → same_waiter who (asker r) ≡ false
  not_new who k is = ⊎_elim (λ e. absurd (some_none k (sym is ∙ is_new who e))) (λ e. e)
      (true_or_false (same_waiter who (asker r)))

  stays_noted : (entry : Entry) (who : Waiter) (k : Kept) → before who ≡ Some k
      → StaysOrIsAnswered k (kept_for (note windows r entry) who)
  stays_noted entry who k is = inl (noted_other entry who (not_new who k is) ∙ is)

  -- an answer, and cells in which the same wait
  pub told-agrees : (now : List (Option Held)) → WaitersAgree now before → (reply : Reply)
      → AgreesAfter (record { cells = now; entry = Answered reply; resumed = [] })
  told-agrees now same reply = record {
    agreed = answer-agrees now before (kept_for (note windows r (Answered reply))) same (λ who. ⊎_elim
        (λ e. inr (
          subst IsQuiet (sym (noted_same (Answered reply) who e)) (answered_is_quiet _ refl),
          subst IsQuiet
              (sym (is_new who e)) no_quiet,
        ))
        (λ e. inl (noted_other (Answered reply) who e))
        (true_or_false (same_waiter who (asker r))));
    keeps = stays_noted (Answered reply);
    own = noted_same (Answered reply) (asker r) (same_waiter-self (asker r));
  }

  module _ (a : ℕ) (held : Held) (at : held_at cells a ≡ Some held) where
    -- the asker waits
    pub deferred-agrees : r.op ≡ awaiting held.block.kind a
        → AgreesAfter (serve_cell cells a held.block (defers (asker r) (waiters_of held.state)))
    deferred-agrees op = record {
      agreed = answer-agrees
          (set cells a (Some (record { block = held.block; state = Empty (waiters_of held.state ++ asker r ∷ []) })))
          (with_waiting cells before a held (asker r)) (kept_for (note windows r Waiting))
          (defer-agrees cells before a held (asker r) at agrees (kept_for-next windows r fresh))
          (λ who. inl (noted Waiting who
          ∙ ap (λ (op : Op). cond (same_waiter who (asker r)) (Some (record { op = op; entry = Waiting }))
          (before who)) op));
      keeps = stays_noted Waiting;
      own = noted_same Waiting (asker r) (same_waiter-self (asker r));
    }

    -- some who wait are answered, the rest stays
    module _ (new : CellState) (answered : List Waiter) (told given : Reply)
        (split : (who : Waiter) → times who (waiters_of held.state)
        ≡ times who answered + times who (waiters_of new)) where
      -- what comes of the cell
      abbrev pub resumed : Acted
      resumed = record {
        cells = set cells a
            (Some (record { block = held.block; state = new }));
        entry = Answered told;
        resumed = map
            (λ w. (w, given)) answered;
      }

      here : (who : Waiter) → times who (waiters_of held.state)
          ≡ one_if (waits_for (awaiting held.block.kind a) (before who))
      here who = listed_at cells before agrees a held at who

      waited : (who : Waiter) → 1 ≤ times who answered → waits_for (awaiting held.block.kind a) (before who) ≡ true
      waited who some = let s = split who in let h = here who in one_if-true
          (waits_for (awaiting held.block.kind a) (before who)) (omega arith)

      are_kept : AreKept (note windows r (Answered told)) answered
      are_kept who some =
          let k = waits_for-kept held.block.kind a (before who) (waited who some) in
          ⊎_elim
          (λ e. absurd (some_none k.0 (sym k.1 ∙ is_new who e)))
          (λ e. (k.0, noted_other (Answered told) who e ∙ k.1))
          (true_or_false (same_waiter who (asker r)))

      later : (who : Waiter)
          → AfterAnswers (note windows r (Answered told))
          (answer_each (note windows r (Answered told)) (map (λ w. (w, given)) answered)) given answered who
      later who = answer_each-AfterAnswers (note windows r (Answered told)) given answered are_kept who

      -- the new request isn't among those that waited, so it keeps what it was told
      nobody_new : (who : Waiter) → same_waiter who (asker r) ≡ true → times who (waiters_of held.state) ≡ 0
      nobody_new who e = here who ∙ ap (λ k. one_if (waits_for (awaiting held.block.kind a) k)) (is_new who e)

      new_stays : (who : Waiter) → same_waiter who (asker r) ≡ true → kept_after resumed who
          ≡ Some (record { op = r.op; entry = Answered told })
      new_stays who e = let s = split who in let none = nobody_new who e in (later who).stays (omega arith)
          ∙ noted_same (Answered told) who e

      -- who is answered has the reply
      pub resumed-given : (who : Waiter) (k : Kept) → before who ≡ Some k → 1 ≤ times who answered
          → kept_after resumed who ≡ Some (record { op = k.op; entry = Answered given })
      resumed-given who k is some = (later who).given some
          ∙ ap (option_map (answered_kept given)) (noted_other (Answered told) who (not_new who k is) ∙ is)

      keeps : (who : Waiter) (k : Kept) → before who ≡ Some k → (times who answered ≡ 0) ⊎ (1 ≤ times who answered)
          → StaysOrIsAnswered k (kept_after resumed who)
      keeps who k is (inl none) = inl ((later who).stays none ∙ noted_other (Answered told) who (not_new who k is) ∙ is)
      keeps who k is (inr some) =
          let w = waits_for-kept held.block.kind a (before who) (waited who some) in
          let same : w.0 ≡ k = some_same w.0 k (sym w.1 ∙ is) in
          inr (given, sym (ap is_waiting same) ∙ w.2, resumed-given who k is some)

      pub resumed-agrees : AgreesAfter resumed
      resumed-agrees = record {
        agreed = serve-agrees cells before (kept_after resumed) a held new at agrees (λ who. ⊎_elim
            (λ e.
            let s = split who in
            let none = nobody_new who e in
            inr (
              subst IsQuiet (sym (new_stays who e)) (answered_is_quiet _ refl),
              omega arith,
              λ b n. ap (waits_in b (held_at cells b)) (is_new who e)
                  ∙ waits_in-quiet b (held_at cells b) None no_quiet,
            ))
            (λ e. ⊎_elim
            (λ none. let s = split who in inl ((later who).stays none ∙ noted_other (Answered told) who e, omega arith))
            (λ some.
            let s = split who in
            let h = here who in
            let most = one_if-most (waits_for (awaiting held.block.kind a) (before who)) in
            inr (
              subst IsQuiet (sym ((later who).given some)) (answered_quiet given _),
              omega arith,
              λ b n. waits_in-other held.block.kind a b (held_at cells b) (before who) n (waited who some),
            ))
            (zero_or_more (times who answered)))
            (true_or_false (same_waiter who (asker r))));
        keeps = λ who k is. keeps who k is (zero_or_more (times who answered));
        own = new_stays (asker r) (same_waiter-self (asker r));
      }

  -- an operation on one cell: what has to be shown is what comes of each cell of its kind
  by_cell : (kind : Kind) (f : CellState → Served) (a : ℕ)
      → ((held : Held) → held_at cells a ≡ Some held → same_kind kind held.block.kind ≡ true
      → AgreesAfter (serve_cell cells a held.block (f held.state)))
      → AgreesAfter (at_cell kind f cells a (held_at cells a))
  by_cell kind f a served = by_held (held_at cells a) refl
    where
      by_kind : (held : Held) → held_at cells a ≡ Some held → (b : Bool) → same_kind kind held.block.kind ≡ b
          → AgreesAfter (cond b (serve_cell cells a held.block (f held.state)) (only_tells cells WrongKind))
      by_kind held at true k = served held at k
      by_kind held at false k = told-agrees cells agrees WrongKind

      by_held : (o : Option Held) → held_at cells a ≡ o → AgreesAfter (at_cell kind f cells a o)
      by_held None at = told-agrees cells agrees NoCell
      by_held (Some held) at = by_kind held at (same_kind kind held.block.kind) refl

  -- each operation on each state of a cell
  fetch-agrees : (a : ℕ) → r.op ≡ Fetch a → (held : Held) → held_at cells a ≡ Some held → I ≡ held.block.kind
      → AgreesAfter (serve_cell cells a held.block (fetch (asker r) held.state))
  fetch-agrees a op held at kind = by_state held.state refl
    where
      by_state : (s : CellState) → held.state ≡ s → AgreesAfter (serve_cell cells a held.block (fetch (asker r) s))
      by_state (Empty waiters) is = subst
          (λ s. AgreesAfter (serve_cell cells a held.block (defers (asker r) (waiters_of s)))) is
          (deferred-agrees a held at (op ∙ ap (λ k. awaiting k a) kind))
      by_state (Full v) is = resumed-agrees a held at (Full v) [] (Value v) (Value v)
          (λ who. ap (λ s. times who (waiters_of s)) is)
      by_state (Clashed v) is = resumed-agrees a held at (Clashed v) [] Clash Clash
          (λ who. ap (λ s. times who (waiters_of s)) is)

  take-agrees : (a : ℕ) → r.op ≡ Take a → (held : Held) → held_at cells a ≡ Some held → M ≡ held.block.kind
      → AgreesAfter (serve_cell cells a held.block (take_from (asker r) held.state))
  take-agrees a op held at kind = by_state held.state refl
    where
      by_state : (s : CellState) → held.state ≡ s → AgreesAfter (serve_cell cells a held.block (take_from (asker r) s))
      by_state (Empty waiters) is = subst
          (λ s. AgreesAfter (serve_cell cells a held.block (defers (asker r) (waiters_of s)))) is
          (deferred-agrees a held at (op ∙ ap (λ k. awaiting k a) kind))
      by_state (Full v) is = resumed-agrees a held at (Empty []) [] (Value v) (Value v)
          (λ who. ap (λ s. times who (waiters_of s)) is)
      by_state (Clashed v) is = resumed-agrees a held at (Clashed v) [] Clash Clash
          (λ who. ap (λ s. times who (waiters_of s)) is)

  store-agrees : (a v : ℕ) (held : Held) → held_at cells a ≡ Some held
      → AgreesAfter (serve_cell cells a held.block (store v held.state))
  store-agrees a v held at = by_state held.state refl
    where
      by_state : (s : CellState) → held.state ≡ s → AgreesAfter (serve_cell cells a held.block (store v s))
      by_state (Empty readers) is = resumed-agrees a held at (Full v) readers Stored (Value v)
          (λ who. let e = ap (λ s. times who (waiters_of s)) is in omega arith)
      by_state (Full w) is = resumed-agrees a held at (Clashed w) [] Clash Clash
          (λ who. ap (λ s. times who (waiters_of s)) is)
      by_state (Clashed w) is = resumed-agrees a held at (Clashed w) [] Clash Clash
          (λ who. ap (λ s. times who (waiters_of s)) is)

  put-agrees : (a v : ℕ) (held : Held) → held_at cells a ≡ Some held
      → AgreesAfter (serve_cell cells a held.block (put v held.state))
  put-agrees a v held at = by_state held.state refl
    where
      by_state : (s : CellState) → held.state ≡ s → AgreesAfter (serve_cell cells a held.block (put v s))
      by_state (Empty []) is = resumed-agrees a held at (Full v) [] Stored Stored
          (λ who. ap (λ s. times who (waiters_of s)) is)
      by_state (Empty (taker ∷ takers)) is = resumed-agrees a held at (Empty takers) (taker ∷ []) Stored (Value v)
          (λ who. ap (λ s. times who (waiters_of s)) is ∙ times-first who taker takers)
      by_state (Full w) is = resumed-agrees a held at (Clashed w) [] Clash Clash
          (λ who. ap (λ s. times who (waiters_of s)) is)
      by_state (Clashed w) is = resumed-agrees a held at (Clashed w) [] Clash Clash
          (λ who. ap (λ s. times who (waiters_of s)) is)

  -- blocks
  allocate-agrees_after : (kind : Kind) (n : ℕ) → AgreesAfter (allocate cells kind n)
  allocate-agrees_after kind n = by_test (n == 0)
    where
      by_place : (o : Option ℕ) → place n cells ≡ o → AgreesAfter (allocate_at cells kind n o)
      by_place None e = told-agrees cells agrees NoSpace
      by_place (Some base) e = told-agrees _
          (allocate-agrees cells before agrees base n (record { base = base; length = n; kind = kind })
          (place-free n cells base e)) (Base base)

      by_test : (b : Bool)
          → AgreesAfter (cond b (only_tells cells BadLength) (allocate_at cells kind n (place n cells)))
      by_test true = told-agrees cells agrees BadLength
      by_test false = by_place (place n cells) refl

  whole-agrees_after : (after : Block → List (Option Held)) (reply : Reply) (a : ℕ)
      → ((block : Block) → ((b : ℕ) → a ≤ b → b < a + block.length → waiters_at cells b ≡ [])
      → WaitersAgree (after block) before)
      → (o : Option Block) → AgreesAfter (unless_waited_for after reply cells a o)
  whole-agrees_after after reply a left None = told-agrees cells agrees NoBlock
  whole-agrees_after after reply a left (Some block) = by_test
      (list_any is_waiting_cell (take block.length (drop a cells))) refl
    where
      by_test : (b : Bool) → list_any is_waiting_cell (take block.length (drop a cells)) ≡ b
          → AgreesAfter (cond b (only_tells cells StillWaiting)
          (record { cells = after block; entry = Answered reply; resumed = [] }))
      by_test true e = told-agrees cells agrees StillWaiting
      by_test false e = told-agrees _ (left block (nobody_waits cells a block.length e)) reply

  -- each operation
  pub act-agrees : (op : Op) → r.op ≡ op → AgreesAfter (act cells (asker r) op)
  act-agrees (Alloc kind n) e = allocate-agrees_after kind n
  act-agrees (Release a) e = whole-agrees_after (λ block. fill cells a block.length None) Released a
      (λ block nobody. release-agrees cells before agrees a block.length nobody) (block_with_base a (held_at cells a))
  act-agrees (Reset a) e = whole-agrees_after (λ block. change_each emptied cells a block.length) Cleared a
      (λ block nobody. reset-agrees cells before agrees a block.length nobody) (block_with_base a (held_at cells a))
  act-agrees (Fetch a) e = by_cell I (fetch (asker r)) a
      (λ held at k. fetch-agrees a e held at (same_kind-equal I held.block.kind k))
  act-agrees (Store a v) e = by_cell I (store v) a (λ held at k. store-agrees a v held at)
  act-agrees (Take a) e = by_cell M (take_from (asker r)) a
      (λ held at k. take-agrees a e held at (same_kind-equal M held.block.kind k))
  act-agrees (Put a v) e = by_cell M (put v) a (λ held at k. put-agrees a v held at)
