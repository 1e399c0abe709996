-- The tests of a plan on a memory decide whether it is under way there.
use Rattle.std.proofs.Common.{◌≡◌, ℕ, zero, suc, ◌<◌, ◌≤◌, Bool, true, false, cond, ◌↔◌, List, [], ◌∷◌, is_some, IsTrue}
use Rattle.std.proofs.Common.{nat_lt, slice_get, Some, None, Option, sym, refl, ap, ◌∙◌, subst, arith}
use Rattle.std.proofs.lemmas.{Bool.Decides.nat_tests, Option.none-some, Option.same_Some}
use Rattle.std.specs.List.{AllByRecursion}
use Rattle.im_types.specs.Types.{Entry, Kind, Op, Reply, Waiter, Kept, Waiting, Answered, I, M, Alloc, Release, Reset}
use Rattle.im_types.specs.Types.{Fetch, Store, Take, Put, Base, NoSpace, BadLength, Value, Stored, Clash, NoCell}
use Rattle.im_types.specs.Types.{WrongKind, Released, NoBlock, StillWaiting, Cleared, Request, LAST, CellState, Empty}
use Rattle.im_types.specs.Types.{Full, Clashed, Held, Window, Contents, held_at, waiters_of, waiters_in, waiters_at}
use Rattle.im_types.specs.Types.{kept_for, presence_of, same_waiter, address_of, same_kind, next_number, same_op}
use Rattle.im_types.specs.Types.{bounds_of, bounds, asker, planned_value, fetched, in_block, result_of, is_planned}
use Rattle.im_types.specs.Types.{IsPlan}
use Rattle.im_types.proofs.Tests.{false_true}
use Rattle.im_laws.proofs.{AgreementLemmas.same_waiter-self, Tests.eq_by_test, Tests.test-self}
use Rattle.im_laws.proofs.OpLemmas.{same_op-equal, same_op-self}
use Rattle.im_plans.proofs.PlanLemmas.{planned_value-store, planned_value-stored, same_store}
use Rattle.im_plans.specs.Runs.{IsInPlan, IsResultOrWaits, IsTaken}
use Rattle.im_plans.specs.UnderWay.{fetch_by, IsCellOf, IsPlanUnderWay, IsUnstored, StoredBy, ToStore}
use Rattle.im_planning.proofs.MakingLemmas.{in_plan}
use Rattle.im_planning.specs.Progress.{all_fetch, all_go_on, empty_fits, entry_fits, first_fits, goes_on, has_result}
use Rattle.im_planning.specs.Progress.{held_fits, is_answer, is_done, is_fetch_in, is_no_cell, is_planned_value}
use Rattle.im_planning.specs.Progress.{is_result, is_stored_reply, is_value, is_wrong_kind, kept_fits, may_be_empty}
use Rattle.im_planning.specs.Progress.{may_be_full, number_may_be, tag_fits, was_served}

-- both tests of two
cond-both : (b c : Bool) → cond b c false ≡ true → (b ≡ true) × (c ≡ true)
cond-both true c e = (refl, e)
cond-both false c e = absurd (false_true e)

both-cond : (b c : Bool) → b ≡ true → c ≡ true → cond b c false ≡ true
both-cond true c b e = e
both-cond false c b e = absurd (false_true b)

-- ---- numbers

number-is : (windows : List Window) (element number : ℕ) → number_may_be number (bounds windows element) ≡ true
    → (is_some (slice_get windows element) ≡ true) × (number ≤ LAST)
number-is windows element number e = by_window (slice_get windows element) e
  where
    by_test : (t : Bool) → nat_lt LAST number ≡ t → cond t false true ≡ true → number ≤ LAST
    by_test false t e = grind (arith, nat_tests)
    by_test true t e = absurd (false_true e)

    by_window : (o : Option Window) → number_may_be number (bounds_of o) ≡ true
        → (is_some o ≡ true) × (number ≤ LAST)
    by_window None e = absurd (false_true e)
    by_window (Some w) e = (refl, by_test (nat_lt LAST number) refl e)

is-number : (windows : List Window) (element number : ℕ) → is_some (slice_get windows element) ≡ true → number ≤ LAST
    → number_may_be number (bounds windows element) ≡ true
is-number windows element number some last = by_window (slice_get windows element) some
  where
    by_window : (o : Option Window) → is_some o ≡ true → number_may_be number (bounds_of o) ≡ true
    by_window None some = absurd (false_true some)
    by_window (Some w) some =
        let u : nat_lt LAST number ≡ false = grind (arith, nat_tests) in ap (λ u. cond u false true) u

served-taken : (m : Contents) (r : Request) → is_done m r ≡ true
    → IsTaken m.windows (asker r)
served-taken m r e = by_window (slice_get m.windows r.element) refl e
  where
    by_window : (o : Option Window) → slice_get m.windows r.element ≡ o → was_served r.number (bounds_of o) ≡ true
        → IsTaken m.windows (asker r)
    by_window None at e = absurd (false_true e)
    by_window (Some w) at e = record { window = w; there = at; below = grind (arith, nat_tests) }

taken-served : (m : Contents) (r : Request) → IsTaken m.windows (asker r)
    → is_done m r ≡ true
taken-served m r t =
    let below : r.number < next_number t.window = t.below in
    let test : nat_lt r.number (next_number t.window) ≡ true = grind (arith, nat_tests) in
    ap (λ o. was_served r.number (bounds_of o)) t.there ∙ test

-- ---- replies

-- what these tests say of a reply
record PlainIs (reply : Reply) : Type 0 where
  pub no_cell : is_no_cell reply ≡ true → NoCell ≡ reply
  pub wrong_kind : is_wrong_kind reply ≡ true → WrongKind ≡ reply
  pub stored : is_stored_reply reply ≡ true → Stored ≡ reply

no : {X : Type 0} → false ≡ true → X
no e = absurd (false_true e)

plain-is : (reply : Reply) → PlainIs reply
plain-is (Base b) = record { no_cell = no; wrong_kind = no; stored = no }
plain-is NoSpace = record { no_cell = no; wrong_kind = no; stored = no }
plain-is BadLength = record { no_cell = no; wrong_kind = no; stored = no }
plain-is (Value v) = record { no_cell = no; wrong_kind = no; stored = no }
plain-is Stored = record { no_cell = no; wrong_kind = no; stored = λ e. refl }
plain-is Clash = record { no_cell = no; wrong_kind = no; stored = no }
plain-is NoCell = record { no_cell = λ e. refl; wrong_kind = no; stored = no }
plain-is WrongKind = record { no_cell = no; wrong_kind = λ e. refl; stored = no }
plain-is Released = record { no_cell = no; wrong_kind = no; stored = no }
plain-is NoBlock = record { no_cell = no; wrong_kind = no; stored = no }
plain-is StillWaiting = record { no_cell = no; wrong_kind = no; stored = no }
plain-is Cleared = record { no_cell = no; wrong_kind = no; stored = no }

value-is : (stored : Option ℕ) (reply : Reply) → is_value stored reply ≡ true → fetched stored ≡ Some reply
value-is None reply e = absurd (false_true e)
value-is (Some v) (Base b) e = absurd (false_true e)
value-is (Some v) NoSpace e = absurd (false_true e)
value-is (Some v) BadLength e = absurd (false_true e)
value-is (Some v) (Value w) e = ap (λ v. Some (Value v)) (eq_by_test v w e)
value-is (Some v) Stored e = absurd (false_true e)
value-is (Some v) Clash e = absurd (false_true e)
value-is (Some v) NoCell e = absurd (false_true e)
value-is (Some v) WrongKind e = absurd (false_true e)
value-is (Some v) Released e = absurd (false_true e)
value-is (Some v) NoBlock e = absurd (false_true e)
value-is (Some v) StillWaiting e = absurd (false_true e)
value-is (Some v) Cleared e = absurd (false_true e)

is-value : (stored : Option ℕ) (reply : Reply) → fetched stored ≡ Some reply → is_value stored reply ≡ true
is-value None reply e = absurd (none-some reply e)
is-value (Some v) reply e = ap (is_value (Some v)) (sym (same_Some (Value v) reply e)) ∙ test-self v

-- the reply to a planned operation on an I cell that the plan stores this value to
abbrev told_by : Op → Option ℕ → Option Reply
told_by (Fetch a) stored = fetched stored
told_by (Store a v) stored = Some Stored
told_by (Alloc kind n) stored = None
told_by (Release a) stored = None
told_by (Reset a) stored = None
told_by (Take a) stored = None
told_by (Put a v) stored = None

answer-is : (op : Op) (stored : Option ℕ) (reply : Reply) → is_answer op stored reply ≡ true → told_by op stored
    ≡ Some reply
answer-is (Fetch a) stored reply e = value-is stored reply e
answer-is (Store a v) stored reply e = ap Some ((plain-is reply).stored e)
answer-is (Alloc kind n) stored reply e = absurd (false_true e)
answer-is (Release a) stored reply e = absurd (false_true e)
answer-is (Reset a) stored reply e = absurd (false_true e)
answer-is (Take a) stored reply e = absurd (false_true e)
answer-is (Put a v) stored reply e = absurd (false_true e)

is-answer : (op : Op) (stored : Option ℕ) (reply : Reply) → told_by op stored ≡ Some reply
    → is_answer op stored reply ≡ true
is-answer (Fetch a) stored reply e = is-value stored reply e
is-answer (Store a v) stored reply e = ap is_stored_reply (sym (same_Some Stored reply e))
is-answer (Alloc kind n) stored reply e = absurd (none-some reply e)
is-answer (Release a) stored reply e = absurd (none-some reply e)
is-answer (Reset a) stored reply e = absurd (none-some reply e)
is-answer (Take a) stored reply e = absurd (none-some reply e)
is-answer (Put a v) stored reply e = absurd (none-some reply e)

result-is : (op : Op) (stored : Option ℕ) (held : Option Held) (reply : Reply)
    → is_result op stored held reply ≡ true → in_block held (told_by op stored) ≡ Some reply
result-is op stored None reply e = ap Some ((plain-is reply).no_cell e)
result-is op stored (Some held) reply e = by_kind held.block.kind e
  where
    by_kind : (k : Kind) → cond (same_kind I k) (is_answer op stored reply) (is_wrong_kind reply) ≡ true
        → cond (same_kind I k) (told_by op stored) (Some WrongKind) ≡ Some reply
    by_kind I e = answer-is op stored reply e
    by_kind M e = ap Some ((plain-is reply).wrong_kind e)

is-result : (op : Op) (stored : Option ℕ) (held : Option Held) (reply : Reply)
    → in_block held (told_by op stored) ≡ Some reply → is_result op stored held reply ≡ true
is-result op stored None reply e = ap is_no_cell (sym (same_Some NoCell reply e))
is-result op stored (Some held) reply e = by_kind held.block.kind e
  where
    by_kind : (k : Kind) → cond (same_kind I k) (told_by op stored) (Some WrongKind) ≡ Some reply
        → cond (same_kind I k) (is_answer op stored reply) (is_wrong_kind reply) ≡ true
    by_kind I e = is-answer op stored reply e
    by_kind M e = ap is_wrong_kind (sym (same_Some WrongKind reply e))

-- what is told is the plan's result
told-result : (cells : List (Option Held)) (plan : List Request) (op : Op) → is_planned op ≡ true
    → in_block (held_at cells (address_of op)) (told_by op (planned_value (address_of op) plan))
    ≡ result_of cells plan op
told-result cells plan (Fetch a) e = refl
told-result cells plan (Store a v) e = refl
told-result cells plan (Alloc kind n) e = absurd (false_true e)
told-result cells plan (Release a) e = absurd (false_true e)
told-result cells plan (Reset a) e = absurd (false_true e)
told-result cells plan (Take a) e = absurd (false_true e)
told-result cells plan (Put a v) e = absurd (false_true e)

-- ---- what is kept

entry-is : (op : Op) (stored : Option ℕ) (held : Option Held) (entry : Entry) → has_result op stored held entry ≡ true
    → IsResultOrWaits (in_block held (told_by op stored)) entry
entry-is op stored held Waiting e = tt
entry-is op stored held (Answered reply) e = result-is op stored held reply e

is-entry : (op : Op) (stored : Option ℕ) (held : Option Held) (entry : Entry)
    → IsResultOrWaits (in_block held (told_by op stored)) entry → has_result op stored held entry ≡ true
is-entry op stored held Waiting e = refl
is-entry op stored held (Answered reply) e = is-result op stored held reply e

kept-is : (op : Op) (stored : Option ℕ) (held : Option Held) (o : Option Kept) → kept_fits op stored held o ≡ true
    → (k : Kept) → o ≡ Some k → (k.op ≡ op) × IsResultOrWaits (in_block held (told_by op stored)) k.entry
kept-is op stored held None e k at = absurd (none-some k at)
kept-is op stored held (Some j) e k at =
    let both = cond-both (same_op j.op op) (has_result op stored held j.entry) e in
    subst (λ (k : Kept). (k.op ≡ op) × IsResultOrWaits (in_block held (told_by op stored)) k.entry) (same_Some j k at)
    (same_op-equal j.op op both.0, entry-is op stored held j.entry both.1)

is-kept : (op : Op) (stored : Option ℕ) (held : Option Held) (o : Option Kept)
    → ((k : Kept) → o ≡ Some k → (k.op ≡ op) × IsResultOrWaits (in_block held (told_by op stored)) k.entry)
    → kept_fits op stored held o ≡ true
is-kept op stored held None each = refl
is-kept op stored held (Some k) each =
    let is = each k refl in
    both-cond (same_op k.op op) (has_result op stored held k.entry)
    (ap (same_op k.op) (sym is.0) ∙ same_op-self k.op) (is-entry op stored held k.entry is.1)

-- ---- those who wait

fetch-is : (plan : List Request) → IsPlan plan → (a : ℕ) (who : Waiter) → is_fetch_in plan a who ≡ true
    → IsInPlan plan (fetch_by a who)
fetch-is plan is a who e = (in_plan (fetch_by a who) plan is).0 e

is-fetch : (plan : List Request) → IsPlan plan → (a : ℕ) (who : Waiter) → IsInPlan plan (fetch_by a who)
    → is_fetch_in plan a who ≡ true
is-fetch plan is a who h = (in_plan (fetch_by a who) plan is).1 h

fetches-are : (plan : List Request) → IsPlan plan → (a : ℕ) (waiters : List Waiter) → all_fetch plan a waiters ≡ true
    → AllByRecursion (λ who. IsInPlan plan (fetch_by a who)) waiters
fetches-are plan is a [] e = tt
fetches-are plan is a (w ∷ ws) e =
    let both = cond-both (is_fetch_in plan a w) (all_fetch plan a ws) e in
    (fetch-is plan is a w both.0, fetches-are plan is a ws both.1)

are-fetches : (plan : List Request) → IsPlan plan → (a : ℕ) (waiters : List Waiter)
    → AllByRecursion (λ who. IsInPlan plan (fetch_by a who)) waiters → all_fetch plan a waiters ≡ true
are-fetches plan is a [] all = refl
are-fetches plan is a (w ∷ ws) all = both-cond (is_fetch_in plan a w) (all_fetch plan a ws)
    (is-fetch plan is a w all.0) (are-fetches plan is a ws all.1)

-- an empty cell has one test, whoever waits
empty-tag : (m : Contents) (plan : List Request) (r : Request) (ws : List Waiter)
    → tag_fits m plan r (presence_of (Empty ws)) ≡ empty_fits m plan r
empty-tag m plan r [] = refl
empty-tag m plan r (w ∷ ws) = refl

-- an I cell has the test of its tag
held-tag : (m : Contents) (plan : List Request) (r : Request) (held : Held) → held.block.kind ≡ I
    → held_fits m plan r (Some held) ≡ tag_fits m plan r (presence_of held.state)
held-tag m plan r held kind = ap (λ k. cond (same_kind I k) (tag_fits m plan r (presence_of held.state)) true) kind

-- ---- one request

pub record Goes (m : Contents) (plan : List Request) (r : Request) : Type 0 where
  pub element : is_some (slice_get m.windows r.element) ≡ true
  pub number : r.number ≤ LAST
  pub kept : (k : Kept) → kept_for m.windows (asker r) ≡ Some k
      → (k.op ≡ r.op) × IsResultOrWaits (result_of m.cells plan r.op) k.entry
  pub cell : held_fits m plan r (held_at m.cells (address_of r.op)) ≡ true

request-goes : (m : Contents) (plan : List Request) (r : Request) → is_planned r.op ≡ true → goes_on m plan r ≡ true
    → Goes m plan r
request-goes m plan r planned e =
    let first = cond-both (number_may_be r.number (bounds m.windows r.element)) _ e in
    let rest = cond-both (entry_fits m plan r) _ first.1 in
    let number = number-is m.windows r.element r.number first.0 in
    record {
      element = number.0;
      number = number.1;
      kept = λ k at. subst (λ o. (k.op ≡ r.op) × IsResultOrWaits o k.entry) (told-result m.cells plan r.op planned)
          (kept-is r.op (planned_value (address_of r.op) plan) (held_at m.cells (address_of r.op))
          (kept_for m.windows (asker r)) rest.0 k at);
      cell = rest.1;
    }

goes-request : (m : Contents) (plan : List Request) (r : Request) → is_planned r.op ≡ true → Goes m plan r
    → goes_on m plan r ≡ true
goes-request m plan r planned g = both-cond (number_may_be r.number (bounds m.windows r.element)) _
    (is-number m.windows r.element r.number g.element g.number)
    (both-cond (entry_fits m plan r) _
    (is-kept r.op (planned_value (address_of r.op) plan) (held_at m.cells (address_of r.op))
    (kept_for m.windows (asker r))
    (λ k at. subst (λ o. (k.op ≡ r.op) × IsResultOrWaits o k.entry) (sym (told-result m.cells plan r.op planned))
    (g.kept k at)))
    g.cell)

-- ---- all of them

all-is : (m : Contents) (plan rest : List Request) → all_go_on m plan rest ≡ true → (i : ℕ) (r : Request)
    → slice_get rest i ≡ Some r → goes_on m plan r ≡ true
all-is m plan [] e i r at = absurd (none-some r at)
all-is m plan (first ∷ rest) e zero r at = subst (λ r. goes_on m plan r ≡ true) (same_Some first r at)
    (cond-both (goes_on m plan first) (all_go_on m plan rest) e).0
all-is m plan (first ∷ rest) e (suc i) r at = all-is m plan rest
    (cond-both (goes_on m plan first) (all_go_on m plan rest) e).1 i r at

is-all : (m : Contents) (plan rest : List Request)
    → ((i : ℕ) (r : Request) → slice_get rest i ≡ Some r → goes_on m plan r ≡ true) → all_go_on m plan rest ≡ true
is-all m plan [] all = refl
is-all m plan (first ∷ rest) all = both-cond (goes_on m plan first) (all_go_on m plan rest) (all 0 first refl)
    (is-all m plan rest (λ i r at. all (suc i) r at))

-- ---- where each goes on, the plan is under way

module _ (m : Contents) (plan : List Request) (is : IsPlan plan)
    (each : (r : Request) → IsInPlan plan r → Goes m plan r) where
  -- the tag of a request's own cell
  own-tag : (q : Request) → IsInPlan plan q → (a : ℕ) → address_of q.op ≡ a → (held : Held)
      → held_at m.cells a ≡ Some held → held.block.kind ≡ I → tag_fits m plan q (presence_of held.state) ≡ true
  own-tag q q_in a same held at kind =
      sym (ap (held_fits m plan q) at ∙ held-tag m plan q held kind)
      ∙ subst (λ b. held_fits m plan q (held_at m.cells b) ≡ true) same (each q q_in).cell

  module _ (a : ℕ) (held : Held) (at : held_at m.cells a ≡ Some held) (kind : held.block.kind ≡ I) where
    -- an empty cell
    own-empty : (q : Request) → IsInPlan plan q → address_of q.op ≡ a → (ws : List Waiter) → held.state ≡ Empty ws
        → (may_be_empty (is_done m q) q.op ≡ true)
        × (first_fits plan a (asker q) ws (slice_get ws 0) ≡ true)
    own-empty q q_in same ws state =
        let waiters : waiters_at m.cells a ≡ ws = ap waiters_in at ∙ ap waiters_of state in
        let fits : empty_fits m plan q ≡ true =
        sym (empty-tag m plan q ws) ∙ sym (ap (λ st. tag_fits m plan q (presence_of st)) state)
        ∙ own-tag q q_in a same held at kind in
        let both = cond-both (may_be_empty (is_done m q) q.op) _ fits in
        let first : first_fits plan a (asker q) (waiters_at m.cells a) (slice_get (waiters_at m.cells a) 0) ≡ true =
        subst (λ b. first_fits plan b (asker q) (waiters_at m.cells b) (slice_get (waiters_at m.cells b) 0) ≡ true)
        same both.1 in
        (both.0, subst (λ ws. first_fits plan a (asker q) ws (slice_get ws 0) ≡ true) waiters first)

    unstored : (ws : List Waiter) → held.state ≡ Empty ws → IsUnstored plan m.windows a
    unstored ws state q v q_in op t =
        let e = (own-empty q q_in (ap address_of op) ws state).0 in
        not_served (is_done m q) (taken-served m q t)
        (sym (ap (may_be_empty (is_done m q)) op) ∙ e)
      where
        not_served : (s : Bool) → s ≡ true → may_be_empty s (Store a v) ≡ true → ⊥
        not_served true s e = false_true e
        not_served false s e = false_true s

    waiters-fetch : (r : Request) → IsInPlan plan r → address_of r.op ≡ a → (ws : List Waiter) → held.state ≡ Empty ws
        → AllByRecursion (λ who. IsInPlan plan (fetch_by a who)) ws
    waiters-fetch r r_in same [] state = tt
    waiters-fetch r r_in same (w ∷ ws) state =
        let first = cond-both (is_fetch_in plan a w) _ (own-empty r r_in same (w ∷ ws) state).1 in
        let w_in = fetch-is plan is a w first.0 in
        let own = cond-both (is_fetch_in plan a w) _ (own-empty (fetch_by a w) w_in refl (w ∷ ws) state).1 in
        fetches-are plan is a (w ∷ ws)
        (sym (ap (λ b. cond b (all_fetch plan a (w ∷ ws)) true) (same_waiter-self w)) ∙ own.1)

    -- a full one
    own-full : (q : Request) → IsInPlan plan q → address_of q.op ≡ a → (w : ℕ) → held.state ≡ Full w
        → (may_be_full (is_done m q) q.op ≡ true) × (is_planned_value w (planned_value a plan) ≡ true)
    own-full q q_in same w state =
        let both = cond-both (may_be_full (is_done m q) q.op)
        (is_planned_value w (planned_value (address_of q.op) plan))
        (sym (ap (λ st. tag_fits m plan q (presence_of st)) state) ∙ own-tag q q_in a same held at kind) in
        (both.0, subst (λ b. is_planned_value w (planned_value b plan) ≡ true) same both.1)

    value-of : (w : ℕ) (o : Option ℕ) → is_planned_value w o ≡ true → o ≡ Some w
    value-of w None e = absurd (false_true e)
    value-of w (Some v) e = ap Some (eq_by_test v w e)

    cell-of : (r : Request) → IsInPlan plan r → address_of r.op ≡ a → (state : CellState) → held.state ≡ state
        → IsCellOf plan m.windows a state
    cell-of r r_in same (Empty ws) state = ToStore ws refl (waiters-fetch r r_in same ws state) (unstored ws state)
    cell-of r r_in same (Full w) state =
        let s = planned_value-stored plan a w
        (value-of w (planned_value a plan) (own-full r r_in same w state).1) in
        let full = (own-full s.request s.in_plan (ap address_of s.op) w state).0 in
        StoredBy s.request w s.in_plan s.op
        (served-taken m s.request (sym (ap (may_be_full (is_done m s.request)) s.op) ∙ full)) refl
    cell-of r r_in same (Clashed w) state = absurd (false_true
        (sym (ap (λ st. tag_fits m plan r (presence_of st)) state) ∙ own-tag r r_in a same held at kind))

  goes-under_way : IsPlanUnderWay m plan
  goes-under_way = record {
    element = λ r r_in. (each r r_in).element;
    number = λ r r_in. (each r r_in).number;
    op = λ r k r_in at. ((each r r_in).kept k at).0;
    result = λ r k r_in at. ((each r r_in).kept k at).1;
    cell = λ r held r_in at kind. cell-of (address_of r.op) held at kind r r_in refl held.state refl;
  }

-- ---- where the plan is under way, each goes on

module _ (m : Contents) (plan : List Request) (is : IsPlan plan) (u : IsPlanUnderWay m plan) (r : Request)
    (r_in : IsInPlan plan r) where
  empty-may : IsUnstored plan m.windows (address_of r.op) → may_be_empty (is_done m r) r.op ≡ true
  empty-may none = by_op r.op refl none
    where
      not_taken : (a v : ℕ) → r.op ≡ Store a v → IsUnstored plan m.windows a → (s : Bool) → is_done m r ≡ s
          → may_be_empty s (Store a v) ≡ true
      not_taken a v op none true s = absurd (none r v r_in op (served-taken m r s))
      not_taken a v op none false s = refl

      by_op : (op : Op) → r.op ≡ op → IsUnstored plan m.windows (address_of op) → may_be_empty (is_done m r) op ≡ true
      by_op (Store a v) e none = not_taken a v e none (is_done m r) refl
      by_op (Fetch a) e none = refl
      by_op (Alloc kind n) e none = refl
      by_op (Release a) e none = refl
      by_op (Reset a) e none = refl
      by_op (Take a) e none = refl
      by_op (Put a v) e none = refl

  full-may : (q : Request) (v : ℕ) → IsInPlan plan q → q.op ≡ Store (address_of r.op) v → IsTaken m.windows (asker q)
      → may_be_full (is_done m r) r.op ≡ true
  full-may q v q_in op t = by_op r.op refl op
    where
      by_op : (o : Op) → r.op ≡ o → q.op ≡ Store (address_of o) v → may_be_full (is_done m r) o ≡ true
      by_op (Store a w) e op = taken-served m r
          (subst (λ q. IsTaken m.windows (asker q)) (same_store plan is q r a v w q_in r_in op e) t)
      by_op (Fetch a) e op = refl
      by_op (Alloc kind n) e op = refl
      by_op (Release a) e op = refl
      by_op (Reset a) e op = refl
      by_op (Take a) e op = refl
      by_op (Put a v) e op = refl

  first-may : (a : ℕ) (ws : List Waiter) → AllByRecursion (λ who. IsInPlan plan (fetch_by a who)) ws
      → first_fits plan a (asker r) ws (slice_get ws 0) ≡ true
  first-may a [] all = refl
  first-may a (w ∷ ws) all = both-cond (is_fetch_in plan a w) _ (is-fetch plan is a w all.0)
      (by_test (same_waiter w (asker r)))
    where
      by_test : (b : Bool) → cond b (all_fetch plan a (w ∷ ws)) true ≡ true
      by_test true = are-fetches plan is a (w ∷ ws) all
      by_test false = refl

  tag-may : (held : Held) → held_at m.cells (address_of r.op) ≡ Some held
      → IsCellOf plan m.windows (address_of r.op) held.state → tag_fits m plan r (presence_of held.state) ≡ true
  tag-may held at (ToStore ws state all none) =
      let waiters : waiters_at m.cells (address_of r.op) ≡ ws = ap waiters_in at ∙ ap waiters_of state in
      ap (λ st. tag_fits m plan r (presence_of st)) state ∙ empty-tag m plan r ws
      ∙ both-cond (may_be_empty (is_done m r) r.op) _ (empty-may none)
      (subst (λ ws. first_fits plan (address_of r.op) (asker r) ws (slice_get ws 0) ≡ true) (sym waiters)
      (first-may (address_of r.op) ws all))
  tag-may held at (StoredBy q v q_in op t state) =
      ap (λ st. tag_fits m plan r (presence_of st)) state
      ∙ both-cond (may_be_full (is_done m r) r.op) _ (full-may q v q_in op t)
      (ap (is_planned_value v) (planned_value-store plan is q (address_of r.op) v q_in op) ∙ test-self v)

  under_way-goes : Goes m plan r
  under_way-goes = record {
    element = u.element r r_in;
    number = u.number r r_in;
    kept = λ k at. (u.op r k r_in at, u.result r k r_in at);
    cell = by_held (held_at m.cells (address_of r.op)) refl;
  }
    where
      by_kind : (held : Held) → held_at m.cells (address_of r.op) ≡ Some held → (k : Kind) → held.block.kind ≡ k
          → cond (same_kind I k) (tag_fits m plan r (presence_of held.state)) true ≡ true
      by_kind held at I kind = tag-may held at (u.cell r held r_in at kind)
      by_kind held at M kind = refl

      by_held : (o : Option Held) → held_at m.cells (address_of r.op) ≡ o → held_fits m plan r o ≡ true
      by_held None at = refl
      by_held (Some held) at = by_kind held at held.block.kind refl

pub plan_goes_on : (m : Contents) (plan : List Request) → IsPlan plan
    → IsTrue (all_go_on m plan plan) ↔ IsPlanUnderWay m plan
plan_goes_on m plan is = (
  λ e. goes-under_way m plan is (λ r r_in. request-goes m plan r (is.planned r_in.0 r r_in.1)
      (all-is m plan plan e r_in.0 r r_in.1)),
  λ u. is-all m plan plan (λ i r at. goes-request m plan r (is.planned i r at)
      (under_way-goes m plan is u r (i, at))),
)
