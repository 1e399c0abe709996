-- A law of one cell, said request by request.
use Rattle.std.proofs.Common.{◌≡◌, ℕ, ◌≤◌, true, false, ◌⊎◌, List, [], ◌∷◌, ◌++◌, IfSome, slice_get, Some, sym, ap, ◌∙◌}
use Rattle.std.proofs.Common.{inl}
use Rattle.std.proofs.lemmas.Option.{IfSome_then, none-some}
use Rattle.im_types.specs.Types.{Entry, Kind, Op, Reply, Waiter, Waiting, Answered, CellState, Empty, waiters_of, times}
use Rattle.im_types.specs.Types.{ServedCell as Served, asker, Event, lawful_entry}
use Rattle.im_histories.proofs.CellStep.{answered_by, given_by, is_for, serve_op}

abbrev pub served_by : Event → CellState → Served
served_by e state = serve_op (asker e.request) e.request.op state

-- an event with another operation
abbrev pub event_with : Event → Op → Event
event_with e op = record { request = record { element = e.request.element; number = e.request.number; op = op }; entry = e.entry }

-- Of a law there are given: which state a cell has after the requests of its life so far (Agrees), and which entry the request that waits at a place
-- of the cell's list has in the end, by all requests of the life and those so far (due).
-- A request for the cell, after those so far, keeps both, and is given what the law says:
pub record IsServed (kind : Kind) (a : ℕ) (Agrees : List Event → CellState → Type 0)
    (due : List Event → List Event → ℕ → Entry) (early : List Event) (e : Event) (state : CellState) : Type 0 where
  pub agrees : Agrees (early ++ e ∷ []) (served_by e state).state
  -- who waits is resumed with what is due, or waits on, perhaps at another place, and the same is due
  pub waits : (all later : List Event) → all ≡ early ++ e ∷ later → (k : ℕ) (who : Waiter)
      → slice_get (waiters_of state) k ≡ Some who
      → ((1 ≤ times who (answered_by e.request.op state)) × (due all early k ≡ Answered (given_by e.request.op)))
      ⊎ ((j : ℕ) × (slice_get (waiters_of (served_by e state).state) j ≡ Some who)
      × (due all (early ++ e ∷ []) j ≡ due all early k))
  -- the asker has the lawful entry at once, or waits and this is due
  pub asked : (all later : List Event) → all ≡ early ++ e ∷ later
      → IfSome (lawful_entry kind a all early e e.request.op) (λ entry.
      ((reply : Reply) × ((served_by e state).entry ≡ Answered reply) × (entry ≡ Answered reply))
      ⊎ ((j : ℕ) × (slice_get (waiters_of (served_by e state).state) j ≡ Some (asker e.request))
      × (due all (early ++ e ∷ []) j ≡ entry)))

-- where nobody waits and the asker is answered at once
pub served_at_once : (kind : Kind) (a : ℕ) (Agrees : List Event → CellState → Type 0)
    (due : List Event → List Event → ℕ → Entry) (early : List Event) (e : Event) (state : CellState)
    → waiters_of state ≡ [] → (reply : Reply) → (served_by e state).entry ≡ Answered reply
    → Agrees (early ++ e ∷ []) (served_by e state).state
    → ((all later : List Event) → all ≡ early ++ e ∷ later
    → IfSome (lawful_entry kind a all early e e.request.op) (λ entry. entry ≡ Answered reply))
    → IsServed kind a Agrees due early e state
served_at_once kind a Agrees due early e state nobody reply told agrees lawful = record {
  agrees = agrees;
  waits = λ all later is k who w. absurd (none-some who (sym (ap (λ waiters. slice_get waiters k) nobody) ∙ w));
  asked = λ all later is. IfSome_then (lawful_entry kind a all early e e.request.op) (lawful all later is)
      (λ entry same. inl (reply, told, same));
}

pub record CellLaw (kind : Kind) (a : ℕ) : Type 1 where
  pub Agrees : List Event → CellState → Type 0
  pub due : List Event → List Event → ℕ → Entry
  -- a new cell
  pub begins : Agrees [] (Empty [])
  -- a request that isn't for the cell
  pub passes : (early : List Event) (e : Event) (state : CellState) → is_for kind a e.request.op ≡ false
      → Agrees early state → Agrees (early ++ e ∷ []) state
  pub passes_due : (all early : List Event) (e : Event) (k : ℕ) → is_for kind a e.request.op ≡ false
      → due all (early ++ e ∷ []) k ≡ due all early k
  -- a request that is
  pub serves : (early : List Event) (e : Event) (state : CellState) → is_for kind a e.request.op ≡ true
      → Agrees early state → IsServed kind a Agrees due early e state
  -- at the end of the life who waits is still waiting
  pub ends : (early : List Event) (state : CellState) → Agrees early state → (k : ℕ) (who : Waiter)
      → slice_get (waiters_of state) k ≡ Some who
      → due early early k ≡ Waiting
