-- The law of one I cell, request by request: the state of the cell by the values stored so far.
use Rattle.std.proofs.Common.{◌≡◌, ℕ, ◌≤◌, true, false, cond, List, [], ◌∷◌, ◌++◌, length, nat_lt, ◌==◌, slice_get}
use Rattle.std.proofs.Common.{Some, None, sym, refl, ap, ◌∙◌, inl, inr, arith, length-append}
use Rattle.std.proofs.lemmas.{Bool.Decides.nat_tests, List.Elements.filter_map-append, Option.none-some}
use Rattle.im_types.specs.Types.{Entry, Op, Waiter, Waiting, Answered, I, Alloc, Release, Reset, Fetch, Store, Take}
use Rattle.im_types.specs.Types.{Put, Value, Clash, CellState, Empty, Full, Clashed, waiters_of, Event, value_stored}
use Rattle.im_types.specs.Types.{stores, value_or_waiting, entry_of_fetch}
use Rattle.im_types.proofs.Tests.{false_true}
use Rattle.im_histories.proofs.CellLaw.{CellLaw, event_with, IsServed, served_at_once}
use Rattle.im_histories.proofs.{CellStep.is_for, OneStep.times-get}
use Rattle.im_histories.proofs.ListLemmas.{filter_map-adds, filter_map-skips, get-end, get-left, if_tested}

module _ (a : ℕ) where
  -- empty before the first store, full after it, clashed after the second
  abbrev Stored_so_far : List Event → CellState → Type 0
  Stored_so_far early (Empty readers) = stores a early ≡ []
  Stored_so_far early (Full v) = stores a early ≡ v ∷ []
  Stored_so_far early (Clashed v) = 2 ≤ length (stores a early)

  -- each reader that waits gets the first value that is stored
  abbrev first_stored : List Event → List Event → ℕ → Entry
  first_stored all early k = value_or_waiting (slice_get (stores a all) 0)

  no_store : (op : Op) → is_for I a op ≡ false → value_stored a op ≡ None
  no_store (Alloc kind n) e = refl
  no_store (Release b) e = refl
  no_store (Reset b) e = refl
  no_store (Fetch b) e = refl
  no_store (Store b v) e = ap (λ t. cond t (Some v) None) e
  no_store (Take b) e = refl
  no_store (Put b v) e = refl

  skips : (early : List Event) (e : Event) → value_stored a e.request.op ≡ None → stores a (early ++ e ∷ [])
      ≡ stores a early
  skips early e none = filter_map-skips (λ (event : Event). value_stored a event.request.op) early e none

  adds : (early later : List Event) (e : Event) (v : ℕ) → value_stored a e.request.op ≡ Some v
      → stores a (early ++ e ∷ later) ≡ stores a early ++ v ∷ stores a later
  adds early later e v some = filter_map-adds (λ (event : Event). value_stored a event.request.op) early later e v some

  stays : (early : List Event) (e : Event) (state : CellState) → value_stored a e.request.op ≡ None
      → Stored_so_far early state → Stored_so_far (early ++ e ∷ []) state
  stays early e (Empty readers) none agrees = skips early e none ∙ agrees
  stays early e (Full v) none agrees = skips early e none ∙ agrees
  stays early e (Clashed v) none agrees = let same = ap (λ (values : List ℕ). length values)
      (skips early e none) in omega arith

  -- what was stored so far is the beginning of all that is stored
  begins_all : (early later all : List Event) (e : Event) → all ≡ early ++ e ∷ later → stores a all
      ≡ stores a early ++ stores a (e ∷ later)
  begins_all early later all e is = ap (stores a) is
      ∙ filter_map-append (λ (event : Event). value_stored a event.request.op) early (e ∷ later)

  full_entry : (early later all : List Event) (e : Event) (v : ℕ) → stores a early ≡ v ∷ [] → all ≡ early ++ e ∷ later
      → entry_of_fetch (stores a early) (stores a all) ≡ Answered (Value v)
  full_entry early later all e v agrees is =
      ap (entry_of_fetch (stores a early)) (begins_all early later all e is)
      ∙ ap (λ values. entry_of_fetch values (values ++ stores a (e ∷ later))) agrees

  clashed_entry : (early all : List Event) → 2 ≤ length (stores a early)
      → entry_of_fetch (stores a early) (stores a all) ≡ Answered Clash
  clashed_entry early all many =
      let past : nat_lt (length (stores a early)) 2 ≡ false = grind (arith, nat_tests) in
      ap (λ t. cond t (value_or_waiting (slice_get (stores a all) 0)) (Answered Clash)) past

  stored_entry : (early later all : List Event) (e : Event) (v : ℕ) → value_stored a e.request.op ≡ Some v
      → stores a early ≡ [] → all ≡ early ++ e ∷ later
      → value_or_waiting (slice_get (stores a all) 0) ≡ Answered (Value v)
  stored_entry early later all e v some agrees is =
      ap (λ values. value_or_waiting (slice_get values 0))
      (ap (stores a) is ∙ adds early later e v some ∙ ap (λ values. values ++ v ∷ stores a later) agrees)

  abbrev IsServedHere : List Event → Event → CellState → Type 0
  IsServedHere early e state = IsServed I a Stored_so_far first_stored early e state

  serves_fetch : (early : List Event) (e : Event) (b : ℕ) → (a == b) ≡ true → (state : CellState)
      → Stored_so_far early state
      → IsServedHere early (event_with e (Fetch b)) state
  serves_fetch early e b mine (Empty readers) agrees = record {
    agrees = stays early _ (Empty readers) refl agrees;
    waits = λ all later is k who w. inr (k, get-left readers _ k who w, refl);
    asked = λ all later is. if_tested (a == b) (entry_of_fetch (stores a early) (stores a all)) _ mine
        (inr (
          length readers,
          get-end readers [] (length readers) _ refl,
          sym
              (ap (λ values. entry_of_fetch values (stores a all)) agrees),
        ));
  }
  serves_fetch early e b mine (Full v) agrees =
      served_at_once I a Stored_so_far first_stored early (event_with e (Fetch b)) (Full v) refl (Value v) refl
      (stays early _ (Full v) refl agrees)
      (λ all later is. if_tested (a == b) (entry_of_fetch (stores a early) (stores a all)) _ mine
      (full_entry early later all _ v agrees is))
  serves_fetch early e b mine (Clashed v) agrees =
      served_at_once I a Stored_so_far first_stored early (event_with e (Fetch b)) (Clashed v) refl Clash refl
      (stays early _ (Clashed v) refl agrees)
      (λ all later is. if_tested (a == b) (entry_of_fetch (stores a early) (stores a all)) _ mine
      (clashed_entry early all agrees))

  value_here : (b v : ℕ) → (a == b) ≡ true → value_stored a (Store b v) ≡ Some v
  value_here b v mine = ap (λ t. cond t (Some v) None) mine

  second_store : (early : List Event) (e : Event) (v : ℕ) → value_stored a e.request.op ≡ Some v
      → 1 ≤ length (stores a early) → 2 ≤ length (stores a (early ++ e ∷ []))
  second_store early e v some first =
      let same = ap (λ (values : List ℕ). length values) (adds early [] e v some) in omega
      (arith, length-append (stores a early) (v ∷ []))

  serves_store : (early : List Event) (e : Event) (b v : ℕ) → (a == b) ≡ true → (state : CellState)
      → Stored_so_far early state
      → IsServedHere early (event_with e (Store b v)) state
  serves_store early e b v mine (Empty readers) agrees = record {
    agrees = adds early [] _ v (value_here b v mine) ∙ ap (λ values. values ++ v ∷ []) agrees;
    waits = λ all later is k who w. inl
        (times-get readers k who w, stored_entry early later all _ v (value_here b v mine) agrees is);
    asked = λ all later is. tt;
  }
  serves_store early e b v mine (Full w) agrees =
      served_at_once I a Stored_so_far first_stored early (event_with e (Store b v)) (Full w) refl Clash refl
      (second_store early _ v (value_here b v mine)
      (let same = ap (λ (values : List ℕ). length values) agrees in omega arith)) (λ all later is. tt)
  serves_store early e b v mine (Clashed w) agrees =
      served_at_once I a Stored_so_far first_stored early (event_with e (Store b v)) (Clashed w) refl Clash refl
      (second_store early _ v (value_here b v mine) (omega arith)) (λ all later is. tt)

  serves_op : (early : List Event) (e : Event) (op : Op) (state : CellState) → is_for I a op ≡ true
      → Stored_so_far early state
      → IsServedHere early (event_with e op) state
  serves_op early e (Alloc kind n) state mine agrees = absurd (false_true mine)
  serves_op early e (Release b) state mine agrees = absurd (false_true mine)
  serves_op early e (Reset b) state mine agrees = absurd (false_true mine)
  serves_op early e (Fetch b) state mine agrees = serves_fetch early e b mine state agrees
  serves_op early e (Store b v) state mine agrees = serves_store early e b v mine state agrees
  serves_op early e (Take b) state mine agrees = absurd (false_true mine)
  serves_op early e (Put b v) state mine agrees = absurd (false_true mine)

  ends_waiting : (early : List Event) (state : CellState) → Stored_so_far early state → (k : ℕ) (who : Waiter)
      → slice_get (waiters_of state) k ≡ Some who
      → first_stored early early k ≡ Waiting
  ends_waiting early (Empty readers) agrees k who w = ap (λ values. value_or_waiting (slice_get values 0)) agrees
  ends_waiting early (Full v) agrees k who w = absurd (none-some who w)
  ends_waiting early (Clashed v) agrees k who w = absurd (none-some who w)

  pub fetch_law : CellLaw I a
  fetch_law = record {
    Agrees = Stored_so_far;
    due = first_stored;
    begins = refl;
    passes = λ early e state other agrees. stays early e state (no_store e.request.op other) agrees;
    passes_due = λ all early e k other. refl;
    serves = λ early e state mine agrees. serves_op early e e.request.op state mine agrees;
    ends = ends_waiting;
  }
