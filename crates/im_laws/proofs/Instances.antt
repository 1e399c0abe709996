-- Each law says something: memories, commands and traces that meet its premises, computed.
use Rattle.std.proofs.Common.{◌≡◌, ℕ, ◌+◌, ◌<◌, ◌≤◌, true, false, List, [], ◌∷◌, take, Some, None, Ok, Err, sym, refl}
use Rattle.std.proofs.Common.{ap, subst, arith}
use Rattle.im_types.specs.Types.{Op, Block, Waiting, Answered, I, M, Alloc, Release, Fetch, Store, Take, Put, Base}
use Rattle.im_types.specs.Types.{NoSpace, Value, Released, Request, Line, Asks, Confirm, Tells, Gap, Mismatch}
use Rattle.im_types.specs.Types.{NotAnswered, WINDOW, LAST, Contents, waiters_at, kept_for, block_at, empty_contents}
use Rattle.im_types.specs.Types.{IsMemory, place, IsLeastFree, bounds, step, acceptance, accepted, end_of}
use Rattle.im_laws.proofs.{JudgeLemmas.confirmed-confirmable, MemoryLemmas.after-memory, MemoryLemmas.empty-memory}
use Rattle.im_laws.proofs.{PlaceLemmas.place-least, Tests.some_same, TraceLemmas.end_of-commands}
use Rattle.im_laws.specs.{Agreement.WaitsAt, Cells.MayChange, Requests.IsNew, Requests.IsServed, Traces.commands_of}
use Rattle.im_laws.specs.Examples.{edges, full_window, one_store, sixteen_cells, three_readers, three_takers, waiter}
use Rattle.im_laws.specs.Windows.{IsConfirmable, IsForgotten, IsNextRequest}

-- after three readers wait; after a store answered them; and a request on the one cell
waiting : Contents
unfolding empty_contents
waiting = end_of sixteen_cells three_readers

answered : Contents
unfolding empty_contents
answered = end_of sixteen_cells one_store

request : ℕ → ℕ → Op → Request
request element number op = record { element = element; number = number; op = op }

-- memories: that of each trace is one
pub end_of-memory : (trace : List Line) → IsMemory 16 16 (end_of sixteen_cells trace)
end_of-memory trace = subst (IsMemory 16 16) (sym (end_of-commands sixteen_cells trace))
    (after-memory 16 16 sixteen_cells (commands_of trace) (empty-memory 16 16))

waiting-memory : IsMemory 16 16 waiting
unfolding waiting
waiting-memory = end_of-memory three_readers

-- places: one that is found, and none
two_cells : IsLeastFree waiting.cells 2 1
unfolding waiting
two_cells = place-least 2 waiting.cells 1 refl

sixteen_more : place 16 waiting.cells ≡ None
unfolding waiting
sixteen_more = refl

-- blocks: the first cell and the last lie in one
one_block : block_at (end_of sixteen_cells edges).cells 0 ≡ block_at (end_of sixteen_cells edges).cells 15
unfolding empty_contents
one_block = refl

-- an allocation that is given its place, one for which there is none, and a release
block_is_made : IsServed waiting (request 0 2 (Alloc M 2)) (Alloc M 2) (Answered (Base 1))
unfolding waiting request
block_is_made = record { is_new = record { accepted = refl; asks = refl }; answered = refl }

no_block_is_made : IsServed waiting (request 0 2 (Alloc M 16)) (Alloc M 16) (Answered NoSpace)
unfolding waiting request
no_block_is_made = record { is_new = record { accepted = refl; asks = refl }; answered = refl }

block_is_released : IsServed answered (request 0 2 (Release 0)) (Release 0) (Answered Released)
unfolding answered request
block_is_released = record { is_new = record { accepted = refl; asks = refl }; answered = refl }

-- who waits: a reader, at its cell
reader_waits : WaitsAt waiting (waiter 1 1) 0
unfolding waiting
reader_waits = record { held = _; there = refl; waits = refl }

-- a fetch that waits behind three, a store that answers them, a put that answers the first of two takers
one_more_reader : IsServed waiting (request 4 1 (Fetch 0)) (Fetch 0) Waiting
unfolding waiting request
one_more_reader = record { is_new = record { accepted = refl; asks = refl }; answered = refl }

two_takers : waiters_at (end_of sixteen_cells (take 3 three_takers)).cells 0 ≡ waiter 3 1 ∷ waiter 1 1 ∷ []
unfolding empty_contents
two_takers = refl

put_is_new : IsNew (end_of sixteen_cells (take 3 three_takers)) (request 4 1 (Put 0 10)) (Put 0 10)
unfolding empty_contents request
put_is_new = record { accepted = refl; asks = refl }

taker_has_waited : kept_for (end_of sixteen_cells (take 3 three_takers)).windows (waiter 3 1)
    ≡ Some (record { op = Take 0; entry = Waiting })
unfolding empty_contents
taker_has_waited = refl

-- cells: a fetch may change its own and no other, a release those of its block alone
other_cell : MayChange (Fetch 0) waiting.cells 1 → ⊥
other_cell same = absurd (let one : 1 ≡ 0 = same in omega arith)

other_block : MayChange (Release 5) waiting.cells 0 → ⊥
unfolding waiting
other_block (block, here, base) =
    let is : record { base = 0; length = 1; kind = I } ≡ block = some_same _ _ here in
    let at_start = ap (λ (block : Block). block.base) is in
    absurd (omega arith)

-- acceptance: what changes the memory, what leaves it, what is refused
store_changes : acceptance waiting (Asks (request 3 1 (Store 0 7))) ≡ Ok true
unfolding waiting request
store_changes = refl

repeat_leaves : acceptance waiting (Asks (request 1 1 (Fetch 0))) ≡ Ok false
unfolding waiting request
repeat_leaves = refl

other_is_refused : acceptance waiting (Asks (request 1 1 (Fetch 1))) ≡ Err Mismatch
unfolding waiting request
other_is_refused = refl

old_base_leaves : acceptance answered (Confirm 1 1) ≡ Ok false
unfolding answered
old_base_leaves = refl

confirmation_changes : acceptance answered (Confirm 1 3) ≡ Ok true
unfolding answered
confirmation_changes = refl

-- bounds, and what lies below, between and past them
bounds_of_two : bounds waiting.windows 1 ≡ Ok (1, 3)
unfolding waiting
bounds_of_two = refl

next_is_accepted : IsNextRequest waiting.windows (request 1 3 (Fetch 0))
unfolding waiting request
next_is_accepted = record { base = 1; are = refl; room = let h : 3 < 1 + WINDOW = omega arith in h; to_last = let h : 3 ≤ LAST = omega arith in h }

full_has_no_room : bounds (end_of sixteen_cells (take 65 full_window)).windows 1 ≡ Ok (1, 1 + WINDOW)
unfolding empty_contents
full_has_no_room = refl

-- a window whose numbers are all given away, so that the next one is past the last
used_up : Contents
used_up = record { cells = []; windows = record { base = LAST + 1; kept = [] } ∷ [] }

past_the_last : (step used_up (Asks (request 0 (LAST + 1) (Fetch 0)))).answer ≡ Err Gap
unfolding used_up request
past_the_last = refl

answered_is_confirmable : IsConfirmable answered.windows 1 3
unfolding answered
answered_is_confirmable = confirmed-confirmable answered 1 3 refl

waiting_is_not : (step waiting (Confirm 1 3)).answer ≡ Err NotAnswered
unfolding waiting
waiting_is_not = refl

-- entries: one that waits and is answered later, and then is forgotten
kept_waiting : kept_for waiting.windows (waiter 1 1) ≡ Some (record { op = Fetch 0; entry = Waiting })
unfolding waiting
kept_waiting = refl

kept_answered : kept_for answered.windows (waiter 1 1) ≡ Some (record { op = Fetch 0; entry = Answered (Value 7) })
unfolding answered
kept_answered = refl

confirmed_is_forgotten : IsForgotten (step answered (Confirm 1 3)).contents.windows (waiter 1 2)
unfolding answered
confirmed_is_forgotten = record { window = record { base = 3; kept = [] }; there = refl; below = let h : 2 < 3 = omega arith in h }

-- a request that was told, sent again after the store
told_again : (step answered (Asks (request 1 1 (Fetch 0)))).answer ≡ Ok (Tells (Answered (Value 7)))
unfolding answered request
told_again = refl

-- a run with commands that aren't accepted
one_of_three : accepted sixteen_cells
    (Confirm 0 1 ∷ Asks (request 0 1 (Alloc I 1)) ∷ Asks (request 0 1 (Alloc I 1)) ∷ [])
    ≡ Asks (request 0 1 (Alloc I 1)) ∷ []
unfolding empty_contents request
one_of_three = refl
