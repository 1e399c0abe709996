-- The law of one M cell, request by request: the state of the cell by how many puts and takes there were so far.
use Rattle.std.proofs.Common.{◌≡◌, ℕ, zero, suc, ◌+◌, ◌<◌, ◌≤◌, Bool, true, false, cond, ◌&&◌, ◌||◌, ◌⊎◌, List, [], ◌∷◌}
use Rattle.std.proofs.Common.{◌++◌, length, is_some, IfSome, nat_lt, ◌==◌, slice_get, Some, None, sym, refl, ap, ◌∙◌}
use Rattle.std.proofs.Common.{inl, inr, append_assoc, append-nil, arith, length-append}
use Rattle.std.proofs.lemmas.{Bool.Decides.nat_tests, Option.none-some, Option.slice_get_past}
use Rattle.std.proofs.{lemmas.List.Elements.filter_map-append, lemmas.List.Sums.sum_by-append, Math.Bool.or_assoc}
use Rattle.im_types.specs.Types.{Entry, Op, Reply, Waiter, Waiting, Answered, M, Alloc, Release, Reset, Fetch, Store}
use Rattle.im_types.specs.Types.{Take, Put, Value, Stored, Clash, CellState, Empty, Full, Clashed, waiters_of, times}
use Rattle.im_types.specs.Types.{put, Event, value_put, is_take, puts, takes, value_or_waiting, has_clash}
use Rattle.im_types.specs.Types.{entry_of_take, entry_of_put, lawful_entry}
use Rattle.im_types.proofs.Tests.{false_true}
use Rattle.im_histories.proofs.CellLaw.{CellLaw, event_with, IsServed, served_at_once, served_by}
use Rattle.im_histories.proofs.{CellStep.is_for, OneStep.times-get}
use Rattle.im_histories.proofs.ListLemmas.{filter_map-adds, filter_map-skips, get-end, get-left, if_tested}

or_false : (t : Bool) → (t || false) ≡ t
or_false true = refl
or_false false = refl

or_true : (t : Bool) → (t || true) ≡ true
or_true true = refl
or_true false = refl

-- an event clashes, after so many takes and puts
abbrev clashes : ℕ → List Event → Event → Bool
clashes a early e = is_some (value_put a e.request.op) && nat_lt (takes a early) (length (puts a early))

has_clash-push : (a : ℕ) (earlier events : List Event) (e : Event)
    → has_clash a earlier (events ++ e ∷ []) ≡ (has_clash a earlier events || clashes a (earlier ++ events) e)
has_clash-push a earlier [] e = or_false (clashes a earlier e)
    ∙ sym (ap (λ early. clashes a early e) (append-nil earlier))
has_clash-push a earlier (x ∷ events) e =
    ap (λ t. clashes a earlier x || t) (has_clash-push a (earlier ++ x ∷ []) events e)
    ∙ ap (λ early. clashes a earlier x || (has_clash a (earlier ++ x ∷ []) events || clashes a early e))
    (append_assoc earlier (x ∷ []) events)
    ∙ sym (or_assoc (clashes a earlier x) (has_clash a (earlier ++ x ∷ []) events)
    (clashes a (earlier ++ x ∷ events) e))

module _ (a : ℕ) where
  -- how the counts go on with one more event
  skips : (early : List Event) (e : Event) → value_put a e.request.op ≡ None → puts a (early ++ e ∷ []) ≡ puts a early
  skips early e none = filter_map-skips (λ (event : Event). value_put a event.request.op) early e none

  adds : (early later : List Event) (e : Event) (v : ℕ) → value_put a e.request.op ≡ Some v
      → puts a (early ++ e ∷ later) ≡ puts a early ++ v ∷ puts a later
  adds early later e v some = filter_map-adds (λ (event : Event). value_put a event.request.op) early later e v some

  takes-push : (early : List Event) (e : Event) (t : Bool) → is_take a e.request.op ≡ t → takes a (early ++ e ∷ [])
      ≡ takes a early + cond t 1 0
  takes-push early e t is =
      let one : takes a (e ∷ []) ≡ 0 + cond t 1 0 = ap (λ t. 0 + cond t 1 0) is in
      omega (arith, one, sum_by-append (λ (event : Event). cond (is_take a event.request.op) 1 0) early (e ∷ []))

  no_clash-push : (early : List Event) (e : Event) → value_put a e.request.op ≡ None
      → has_clash a [] (early ++ e ∷ []) ≡ has_clash a [] early
  no_clash-push early e none =
      has_clash-push a [] early e
      ∙ ap (λ o. has_clash a [] early || (is_some o && nat_lt (takes a early) (length (puts a early)))) none
      ∙ or_false (has_clash a [] early)

  clash-push : (early : List Event) (e : Event) (v : ℕ) → value_put a e.request.op ≡ Some v
      → has_clash a [] (early ++ e ∷ []) ≡ (has_clash a [] early || nat_lt (takes a early) (length (puts a early)))
  clash-push early e v some = has_clash-push a [] early e
      ∙ ap (λ o. has_clash a [] early || (is_some o && nat_lt (takes a early) (length (puts a early)))) some

  no_put : (op : Op) → is_for M a op ≡ false → value_put a op ≡ None
  no_put (Alloc kind n) e = refl
  no_put (Release b) e = refl
  no_put (Reset b) e = refl
  no_put (Fetch b) e = refl
  no_put (Store b v) e = refl
  no_put (Take b) e = refl
  no_put (Put b v) e = ap (λ t. cond t (Some v) None) e

  no_take : (op : Op) → is_for M a op ≡ false → is_take a op ≡ false
  no_take (Alloc kind n) e = refl
  no_take (Release b) e = refl
  no_take (Reset b) e = refl
  no_take (Fetch b) e = refl
  no_take (Store b v) e = refl
  no_take (Take b) e = e
  no_take (Put b v) e = refl

  -- empty while the takes are at least as many as the puts, and those that are more wait; full with the last put; or clashed
  pub record IsEmptyAfter (early : List Event) (takers : List Waiter) : Type 0 where
    pub no_clash : has_clash a [] early ≡ false
    pub more_takes : takes a early ≡ length (puts a early) + length takers

  pub record IsFullAfter (early : List Event) (v : ℕ) : Type 0 where
    pub no_clash : has_clash a [] early ≡ false
    pub one_put : length (puts a early) ≡ suc (takes a early)
    pub last : slice_get (puts a early) (takes a early) ≡ Some v

  abbrev Counted_so_far : List Event → CellState → Type 0
  Counted_so_far early (Empty takers) = IsEmptyAfter early takers
  Counted_so_far early (Full v) = IsFullAfter early v
  Counted_so_far early (Clashed v) = has_clash a [] early ≡ true

  -- the taker at a place of the list gets the put that is as far after those so far
  abbrev put_due : List Event → List Event → ℕ → Entry
  put_due all early k = value_or_waiting (slice_get (puts a all) (length (puts a early) + k))

  takes-stay : (early : List Event) (e : Event) → is_take a e.request.op ≡ false → takes a (early ++ e ∷ [])
      ≡ takes a early
  takes-stay early e other = let more = takes-push early e false other in omega arith

  takes-more : (early : List Event) (e : Event) → is_take a e.request.op ≡ true → takes a (early ++ e ∷ [])
      ≡ suc (takes a early)
  takes-more early e one = let more = takes-push early e true one in omega arith

  puts-more : (early : List Event) (e : Event) (v : ℕ) → value_put a e.request.op ≡ Some v
      → length (puts a (early ++ e ∷ [])) ≡ suc (length (puts a early))
  puts-more early e v some =
      let same = ap (λ (values : List ℕ). length values) (adds early [] e v some) in omega
      (arith, length-append (puts a early) (v ∷ []))

  puts-stay : (early : List Event) (e : Event) → value_put a e.request.op ≡ None → length (puts a (early ++ e ∷ []))
      ≡ length (puts a early)
  puts-stay early e none = ap (λ (values : List ℕ). length values) (skips early e none)

  -- an event that is no put, and no take
  stays : (early : List Event) (e : Event) (state : CellState) → value_put a e.request.op ≡ None
      → is_take a e.request.op ≡ false
      → Counted_so_far early state → Counted_so_far (early ++ e ∷ []) state
  stays early e (Empty takers) none other agrees = record {
    no_clash = no_clash-push early e none ∙ agrees.no_clash;
    more_takes = let p = puts-stay early e none in let t = takes-stay early e other in let was = agrees.more_takes in omega arith;
  }
  stays early e (Full v) none other agrees = record {
    no_clash = no_clash-push early e none ∙ agrees.no_clash;
    one_put = let p = puts-stay early e none in let t = takes-stay early e other in let was = agrees.one_put in omega arith;
    last = ap (λ values. slice_get values (takes a (early ++ e ∷ []))) (skips early e none)
        ∙ ap (slice_get (puts a early)) (takes-stay early e other) ∙ agrees.last;
  }
  stays early e (Clashed v) none other agrees = no_clash-push early e none ∙ agrees

  due_stays : (all early : List Event) (e : Event) (k : ℕ) → value_put a e.request.op ≡ None
      → put_due all (early ++ e ∷ []) k ≡ put_due all early k
  due_stays all early e k none = ap (λ n. value_or_waiting (slice_get (puts a all) (n + k))) (puts-stay early e none)

  abbrev IsServedHere : List Event → Event → CellState → Type 0
  IsServedHere early e state = IsServed M a Counted_so_far put_due early e state

  at_once : (early : List Event) (e : Event) (state : CellState) → waiters_of state ≡ [] → (reply : Reply)
      → (served_by e state).entry ≡ Answered reply
      → Counted_so_far (early ++ e ∷ []) (served_by e state).state
      → ((all later : List Event) → all ≡ early ++ e ∷ later
      → IfSome (lawful_entry M a all early e e.request.op) (λ entry. entry ≡ Answered reply))
      → IsServedHere early e state
  at_once early e state = served_at_once M a Counted_so_far put_due early e state

  -- a take
  module _ (early : List Event) (e : Event) (one : is_take a e.request.op ≡ true)
      (none : value_put a e.request.op ≡ None) where
    deferred : (takers : List Waiter) (who : Waiter) → IsEmptyAfter early takers
        → IsEmptyAfter (early ++ e ∷ []) (takers ++ who ∷ [])
    deferred takers who agrees = record {
      no_clash = no_clash-push early e none ∙ agrees.no_clash;
      more_takes = let p = puts-stay early e none in let t = takes-more early e one in let was = agrees.more_takes in omega (arith, length-append takers (who ∷ []));
    }

    emptied : (v : ℕ) → IsFullAfter early v → IsEmptyAfter (early ++ e ∷ []) []
    emptied v agrees = record {
      no_clash = no_clash-push early e none ∙ agrees.no_clash;
      more_takes = let p = puts-stay early e none in let t = takes-more early e one in let was = agrees.one_put in omega arith;
    }

    -- its entry
    deferred_entry : (takers : List Waiter) (all : List Event) → IsEmptyAfter early takers
        → put_due all (early ++ e ∷ []) (length takers) ≡ entry_of_take a early all
    deferred_entry takers all agrees =
        due_stays all early e (length takers) none
        ∙ ap (λ n. value_or_waiting (slice_get (puts a all) n)) (sym agrees.more_takes)
        ∙ sym (ap (λ t. cond t (Answered Clash)
        (value_or_waiting (slice_get (puts a all) (takes a early)))) agrees.no_clash)

    full_entry : (v : ℕ) (all later : List Event) → all ≡ early ++ e ∷ later → IsFullAfter early v
        → entry_of_take a early all ≡ Answered (Value v)
    full_entry v all later is agrees =
        ap (λ t. cond t (Answered Clash) (value_or_waiting (slice_get (puts a all) (takes a early)))) agrees.no_clash
        ∙ ap (λ values. value_or_waiting (slice_get values (takes a early)))
        (ap (puts a) is ∙ filter_map-append (λ (event : Event). value_put a event.request.op) early (e ∷ later))
        ∙ ap value_or_waiting (get-left (puts a early) (puts a (e ∷ later)) (takes a early) v agrees.last)

  clashed_take : (early all : List Event) → has_clash a [] early ≡ true → entry_of_take a early all ≡ Answered Clash
  clashed_take early all clashed = ap
      (λ t. cond t (Answered Clash) (value_or_waiting (slice_get (puts a all) (takes a early)))) clashed

  serves_take : (early : List Event) (e : Event) (b : ℕ) → (a == b) ≡ true → (state : CellState)
      → Counted_so_far early state
      → IsServedHere early (event_with e (Take b)) state
  serves_take early e b mine (Empty takers) agrees = record {
    agrees = deferred early _ mine refl takers _ agrees;
    waits = λ all later is k who w. inr (k, get-left takers _ k who w, due_stays all early _ k refl);
    asked = λ all later is. if_tested (a == b) (entry_of_take a early all) _ mine
        (inr (
          length takers,
          get-end takers []
              (length takers) _ refl,
          deferred_entry early _ mine refl takers all agrees,
        ));
  }
  serves_take early e b mine (Full v) agrees =
      at_once early (event_with e (Take b)) (Full v) refl (Value v) refl (emptied early _ mine refl v agrees)
      (λ all later is. if_tested (a == b) (entry_of_take a early all) _ mine
      (full_entry early _ mine refl v all later is agrees))
  serves_take early e b mine (Clashed v) agrees =
      at_once early (event_with e (Take b)) (Clashed v) refl Clash refl (no_clash-push early _ refl ∙ agrees)
      (λ all later is. if_tested (a == b) (entry_of_take a early all) _ mine (clashed_take early all agrees))

  -- a put
  module _ (early : List Event) (e : Event) (v : ℕ) (some : value_put a e.request.op ≡ Some v)
      (other : is_take a e.request.op ≡ false) where
    -- it doesn't clash where nobody has put before
    no_clash_now : has_clash a [] early ≡ false → length (puts a early) ≤ takes a early
        → has_clash a [] (early ++ e ∷ []) ≡ false
    no_clash_now before few =
        let not_more : nat_lt (takes a early) (length (puts a early)) ≡ false = grind (arith, nat_tests) in
        clash-push early e v some ∙ ap (λ t. t || nat_lt (takes a early) (length (puts a early))) before ∙ not_more

    clash_now : takes a early < length (puts a early) → has_clash a [] (early ++ e ∷ []) ≡ true
    clash_now many =
        let more : nat_lt (takes a early) (length (puts a early)) ≡ true = grind (arith, nat_tests) in
        clash-push early e v some ∙ ap (λ t. has_clash a [] early || t) more ∙ or_true (has_clash a [] early)

    clash_stays : has_clash a [] early ≡ true → has_clash a [] (early ++ e ∷ []) ≡ true
    clash_stays before = clash-push early e v some
        ∙ ap (λ t. t || nat_lt (takes a early) (length (puts a early))) before

    filled : IsEmptyAfter early [] → IsFullAfter (early ++ e ∷ []) v
    filled agrees = record {
      no_clash = no_clash_now agrees.no_clash (let was = agrees.more_takes in omega arith);
      one_put = let p = puts-more early e v some in let t = takes-stay early e other in let was = agrees.more_takes in omega arith;
      last = ap (λ values. slice_get values (takes a (early ++ e ∷ []))) (adds early [] e v some)
          ∙ get-end (puts a early) [] (takes a (early ++ e ∷ [])) v
          (let t = takes-stay early e other in let was = agrees.more_takes in omega arith);
    }

    passed_on : (taker : Waiter) (takers : List Waiter) → IsEmptyAfter early (taker ∷ takers)
        → IsEmptyAfter (early ++ e ∷ []) takers
    passed_on taker takers agrees = record {
      no_clash = no_clash_now agrees.no_clash (let was = agrees.more_takes in omega arith);
      more_takes = let p = puts-more early e v some in let t = takes-stay early e other in let was = agrees.more_takes in omega arith;
    }

    -- what the first that waits gets, and the others
    first_due : (all later : List Event) → all ≡ early ++ e ∷ later → put_due all early 0 ≡ Answered (Value v)
    first_due all later is =
        ap (λ values. value_or_waiting (slice_get values (length (puts a early) + 0)))
        (ap (puts a) is ∙ adds early later e v some)
        ∙ ap value_or_waiting (get-end (puts a early) (puts a later) (length (puts a early) + 0) v (omega arith))

    others_due : (all : List Event) (k : ℕ) → put_due all (early ++ e ∷ []) k ≡ put_due all early (suc k)
    others_due all k = ap (λ n. value_or_waiting (slice_get (puts a all) n))
        (let p = puts-more early e v some in omega arith)

    -- its own entry
    stored_entry : has_clash a [] (early ++ e ∷ []) ≡ false → entry_of_put a early e ≡ Answered Stored
    stored_entry h = ap (λ t. cond t (Answered Clash) (Answered Stored)) h

    clash_entry : has_clash a [] (early ++ e ∷ []) ≡ true → entry_of_put a early e ≡ Answered Clash
    clash_entry h = ap (λ t. cond t (Answered Clash) (Answered Stored)) h

  value_here : (b v : ℕ) → (a == b) ≡ true → value_put a (Put b v) ≡ Some v
  value_here b v mine = ap (λ t. cond t (Some v) None) mine

  -- a put that is answered at once
  module _ (early : List Event) (e : Event) (b v : ℕ) (mine : (a == b) ≡ true) where
    abbrev this : Event
    this = event_with e (Put b v)

    said : (reply : Reply) → entry_of_put a early this ≡ Answered reply → (all later : List Event) → all
        ≡ early ++ this ∷ later
        → IfSome (lawful_entry M a all early this (Put b v)) (λ entry. entry ≡ Answered reply)
    said reply is all later _ = if_tested (a == b) (entry_of_put a early this) (λ entry. entry ≡ Answered reply) mine is

    clashes_now : (state : CellState) → waiters_of state ≡ [] → (put v state).entry ≡ Answered Clash
        → Counted_so_far (early ++ this ∷ []) (put v state).state
        → has_clash a [] (early ++ this ∷ []) ≡ true → IsServedHere early (event_with e (Put b v)) state
    clashes_now state nobody told agrees clash =
        at_once early (event_with e (Put b v)) state nobody Clash told agrees
        (said Clash (clash_entry early this v (value_here b v mine) refl clash))

    serves_put : (state : CellState) → Counted_so_far early state → IsServedHere early (event_with e (Put b v)) state
    serves_put (Empty []) agrees =
        let now = filled early this v (value_here b v mine) refl agrees in
        at_once early (event_with e (Put b v)) (Empty []) refl Stored refl now
        (said Stored (stored_entry early this v (value_here b v mine) refl now.no_clash))
    serves_put (Empty (taker ∷ takers)) agrees =
        let now = passed_on early this v (value_here b v mine) refl taker takers agrees in
        record {
          agrees = now;
          waits = λ all later is k who w. by_place all later is k who w;
          asked = λ all later is. if_tested (a == b) (entry_of_put a early this) _ mine
              (inl (Stored, refl, stored_entry early this v (value_here b v mine) refl now.no_clash));
        }
      where
        by_place : (all later : List Event) → all ≡ early ++ this ∷ later → (k : ℕ) (who : Waiter)
            → slice_get (taker ∷ takers) k ≡ Some who
            → ((1 ≤ times who (taker ∷ [])) × (put_due all early k ≡ Answered (Value v)))
            ⊎ ((j : ℕ) × (slice_get takers j ≡ Some who) × (put_due all (early ++ this ∷ []) j ≡ put_due all early k))
        by_place all later is zero who w = inl
            (times-get (taker ∷ []) 0 who w, first_due early this v (value_here b v mine) refl all later is)
        by_place all later is (suc k) who w = inr (k, w, others_due early this v (value_here b v mine) refl all k)
    serves_put (Full w) agrees =
        let clash = clash_now early this v (value_here b v mine) refl
        (let was = agrees.one_put in omega arith) in clashes_now (Full w) refl refl clash clash
    serves_put (Clashed w) agrees = let clash = clash_stays early this v
        (value_here b v mine) refl agrees in clashes_now (Clashed w) refl refl clash clash

  serves_op : (early : List Event) (e : Event) (op : Op) (state : CellState) → is_for M a op ≡ true
      → Counted_so_far early state
      → IsServedHere early (event_with e op) state
  serves_op early e (Alloc kind n) state mine agrees = absurd (false_true mine)
  serves_op early e (Release b) state mine agrees = absurd (false_true mine)
  serves_op early e (Reset b) state mine agrees = absurd (false_true mine)
  serves_op early e (Fetch b) state mine agrees = absurd (false_true mine)
  serves_op early e (Store b v) state mine agrees = absurd (false_true mine)
  serves_op early e (Take b) state mine agrees = serves_take early e b mine state agrees
  serves_op early e (Put b v) state mine agrees = serves_put early e b v mine state agrees

  ends_waiting : (early : List Event) (state : CellState) → Counted_so_far early state → (k : ℕ) (who : Waiter)
      → slice_get (waiters_of state) k ≡ Some who
      → put_due early early k ≡ Waiting
  ends_waiting early (Empty takers) agrees k who w = ap value_or_waiting
      (slice_get_past (puts a early) (length (puts a early) + k) (omega arith))
  ends_waiting early (Full v) agrees k who w = absurd (none-some who w)
  ends_waiting early (Clashed v) agrees k who w = absurd (none-some who w)

  pub take_law : CellLaw M a
  take_law = record {
    Agrees = Counted_so_far;
    due = put_due;
    begins = record { no_clash = refl; more_takes = omega arith };
    passes = λ early e state other agrees. stays early e state (no_put e.request.op other)
        (no_take e.request.op other) agrees;
    passes_due = λ all early e k other. due_stays all early e k (no_put e.request.op other);
    serves = λ early e state mine agrees. serves_op early e e.request.op state mine agrees;
    ends = ends_waiting;
  }
