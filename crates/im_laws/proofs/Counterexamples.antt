-- No law says more than it does: each one with a premise less, or with another answer, fails at a memory and at commands
-- that are written out here. The definitions compute what these come to.
use Rattle.std.proofs.Common.{◌≡◌, ℕ, zero, suc, ◌+◌, ◌-◌, ◌<◌, ◌≤◌, Bool, true, false, ◌≢◌, ◌↔◌, List, [], ◌∷◌, ◌++◌}
use Rattle.std.proofs.Common.{length, take, if◌then◌else◌, IsOk, IsTrue, IsFalse, nat_le, ◌==◌, Some, None, Ok, Err}
use Rattle.std.proofs.Common.{Option, Result, sym, refl, ap, subst, arith}
use Rattle.std.proofs.lemmas.Bool.Decides.{nat_tests}
use Rattle.im_types.specs.Types.{Entry, Kind, Op, Waiter, Block, Kept, Waiting, Answered, I, M, Alloc, Release, Fetch}
use Rattle.im_types.specs.Types.{Store, Take, Put, Base, NoSpace, Value, Request, Command, Outcome, Line, Asks, Confirm}
use Rattle.im_types.specs.Types.{Tells, Confirmed, Refusal, Gap, Forgotten, NotAnswered, number_of, WINDOW, LAST, Empty}
use Rattle.im_types.specs.Types.{Held, Window, Contents, held_at, waiters_at, kept_for, block_at, HasBlocks}
use Rattle.im_types.specs.Types.{empty_contents, IsMemory, times, address_of, WaitingAgrees, drops, is_free, place}
use Rattle.im_types.specs.Types.{is_waiting, ask, bounds, Stepped, asker, step, is_accepted, acceptance, after}
use Rattle.im_types.specs.Types.{accepted, answers, reached_by_all, puts_of, answer_to, IsLegal, end_of, Reached}
use Rattle.im_types.proofs.Tests.{differ}
use Rattle.im_laws.proofs.{Instances.end_of-memory, Tests.some_none, Tests.true_false}
use Rattle.im_laws.specs.{Blocks.LiesIn, Entries.IsTold, Traces.command_answers, Traces.commands_of}
use Rattle.im_laws.specs.Examples.{asks, edges, full_window, one_store, sixteen_cells, three_readers, three_takers}
use Rattle.im_laws.specs.Examples.{told_reply, told_waits, waiter}
use Rattle.im_laws.specs.Requests.{after_request, IsAnswered, IsNew, IsServed}
use Rattle.im_laws.specs.Windows.{IsForgotten, MovesBase, TakesNextNumber}

-- Three readers wait at cell 0; a store answered them; two takers wait at cell 0.
abbrev waiting : Contents
waiting = end_of sixteen_cells three_readers

abbrev answered : Contents
answered = end_of sixteen_cells one_store

abbrev two_takers : Contents
two_takers = end_of sixteen_cells (take 3 three_takers)

abbrev request : ℕ → ℕ → Op → Request
request element number op = record { element = element; number = number; op = op }

-- What is no memory: one cell in whose list a request stands twice, with no entry.
abbrev listed_twice : Contents
listed_twice = record {
  cells = Some (record {
    block = record { base = 0; length = 1; kind = I };
    state = Empty
        (waiter 0 1 ∷ waiter 0 1 ∷ []);
  }) ∷ [];
  windows = [];
}

-- What is no memory: two blocks that share cell 1.
abbrev two_blocks : List (Option Held)
two_blocks =
    Some (record { block = record { base = 0; length = 2; kind = I }; state = Empty [] })
    ∷ Some (record { block = record { base = 1; length = 1; kind = I }; state = Empty [] })
    ∷ []

-- a number above another one
exceeds : (a b : ℕ) → nat_le a b ≡ false → a ≤ b → ⊥
exceeds a b above le = grind (arith, nat_tests)

-- the base of a block, if there is one
abbrev base_of : Option Block → ℕ
base_of None = 0
base_of (Some block) = block.base

-- how many cells are in no block
abbrev free_cells : List (Option Held) → ℕ
free_cells [] = 0
free_cells (None ∷ cells) = suc (free_cells cells)
free_cells (Some held ∷ cells) = free_cells cells

-- a cell of its own block, at 1
abbrev one_empty : Option Held
one_empty = Some (record { block = record { base = 1; length = 1; kind = I }; state = Empty [] })

-- What is read from an answer, so that two answers can be told apart: the base of a block that was made, whether
-- something waits, whether an entry was told, whether a call was refused.
abbrev base_told : Result Outcome Refusal → ℕ
base_told (Ok (Tells (Answered (Base base)))) = base
base_told answer = 99

abbrev waits_told : Result Outcome Refusal → Bool
waits_told (Ok (Tells Waiting)) = true
waits_told answer = false

abbrev is_told : Result Outcome Refusal → Bool
is_told (Ok (Tells entry)) = true
is_told answer = false

abbrev is_refused : {X : Type 0} → Result X Refusal → Bool
is_refused (Ok value) = false
is_refused (Err refusal) = true

abbrev waits_asked : Result Entry Refusal → Bool
waits_asked (Ok Waiting) = true
waits_asked answer = false

abbrev waits_still : Option Kept → Bool
waits_still None = false
waits_still (Some k) = is_waiting k

abbrev verdict : Result Bool Refusal → Bool
verdict (Ok accepts) = accepts
verdict (Err refusal) = false

abbrev first_of : List (Result Outcome Refusal) → Result Outcome Refusal
first_of [] = Err Gap
first_of (answer ∷ answers) = answer

abbrev second_of : List (Result Outcome Refusal) → Result Outcome Refusal
second_of [] = Err Gap
second_of (answer ∷ answers) = first_of answers

abbrev place_or_none : Option ℕ → ℕ
place_or_none None = 99
place_or_none (Some base) = base

abbrev first_element : List Waiter → ℕ
first_element [] = 99
first_element (who ∷ waiters) = who.element

abbrev base_in : Result (ℕ × ℕ) Refusal → ℕ
base_in (Ok (base, next)) = base
base_in (Err refusal) = 99

abbrev next_in : Result (ℕ × ℕ) Refusal → ℕ
next_in (Ok (base, next)) = next
next_in (Err refusal) = 99

-- ---- agreement

-- `waiting_agrees`: no command mends a memory that didn't agree before it.
agreement_needs_a_memory : ((m : Contents) (command : Command) → WaitingAgrees (step m command).contents) → ⊥
agreement_needs_a_memory law = differ 2 0 refl ((law listed_twice (Confirm 0 1)).listed (waiter 0 1) 0)

-- `waiting_entries_are_listed_once`: where the memory doesn't agree, a request may stand in a list twice.
once_needs_agreement : ((m : Contents) (who : Waiter) (a : ℕ) → times who (waiters_at m.cells a) ≤ 1) → ⊥
once_needs_agreement law = exceeds 2 1 refl (law listed_twice (waiter 0 1) 0)

-- And a request whose entry is kept, but was answered, stands in no list.
answered_is_not_listed : ((m : Contents) (who : Waiter) (k : Kept) → WaitingAgrees m → kept_for m.windows who
    ≡ Some k → 1 ≤ times who (waiters_at m.cells (address_of k.op))) → ⊥
unfolding empty_contents
answered_is_not_listed law =
    exceeds 1 0 refl (law answered (waiter 1 1) (record { op = Fetch 0; entry = Answered (Value 7) })
    (end_of-memory one_store).agrees refl)

-- ---- blocks

-- `blocks_stay_whole`: no command makes blocks whole that weren't.
blocks_need_to_be_whole : ((m : Contents) (command : Command) → HasBlocks (step m command).contents.cells) → ⊥
blocks_need_to_be_whole law =
    let both = (law (record { cells = two_blocks; windows = [] }) (Confirm 0 1)).whole 0
    (record { base = 0; length = 2; kind = I }) refl 1 (omega arith) (omega arith) in
    differ 1 0 refl (ap (λ (o : Option Block). base_of o) both)

-- `blocks_are_apart`: where blocks aren't whole, two of them may share an address.
apart_needs_whole_blocks :
    ((cells : List (Option Held)) (a b shared : ℕ) (first second : Block) → block_at cells a ≡ Some first
    → block_at cells b ≡ Some second → LiesIn shared first → LiesIn shared second → first ≡ second) → ⊥
apart_needs_whole_blocks law =
    let same = law two_blocks 0 1 1 (record { base = 0; length = 2; kind = I })
    (record { base = 1; length = 1; kind = I }) refl refl (omega arith, omega arith) (omega arith, omega arith) in
    differ 0 1 refl (ap (λ (block : Block). block.base) same)

-- `allocation_takes_the_least_place`: a block isn't given each place that is free, but the least one.
other_free_places_are_not_given :
    ((m : Contents) (r : Request) (kind : Kind) (n base : ℕ) → IsNew m r (Alloc kind n)
    → IsTrue (is_free m.cells base n)
    → IsAnswered m r (Answered (Base base))) → ⊥
unfolding empty_contents
other_free_places_are_not_given law =
    differ 1 2 refl (ap base_told
    (law waiting (request 0 2 (Alloc M 2)) M 2 2 (record { accepted = refl; asks = refl }) refl))

-- And there may be no space though enough cells are free: they have to lie side by side.
free_cells_may_lie_apart :
    ((m : Contents) (r : Request) (kind : Kind) (n : ℕ) → IsNew m r (Alloc kind n) → n ≤ free_cells m.cells
    → IsAnswered m r (Answered NoSpace) → ⊥) → ⊥
free_cells_may_lie_apart law =
    law (record { cells = None ∷ one_empty ∷ None ∷ []; windows = record { base = 1; kept = [] } ∷ [] })
    (request 0 1 (Alloc I 2)) I 2
    (record { accepted = refl; asks = refl }) (omega arith) refl

-- `release_frees_the_block`: an address inside a block isn't the base by which it is released.
inner_addresses_release_nothing :
    ((m : Contents) (r : Request) (a b : ℕ) (block : Block) → HasBlocks m.cells → IsNew m r (Release a)
    → block_at m.cells a ≡ Some block → block_at m.cells b ≡ Some block → held_at (after_request m r).cells b ≡ None)
    → ⊥
unfolding empty_contents
inner_addresses_release_nothing law =
    some_none _ (law (end_of sixteen_cells edges) (request 0 5 (Release 3)) 3 3
    (record { base = 0; length = 16; kind = I })
    (end_of-memory edges).blocks (record { accepted = refl; asks = refl }) refl refl)

-- And a block for which somebody waits isn't freed.
waiting_blocks_are_not_freed :
    ((m : Contents) (r : Request) (a b : ℕ) (block : Block) → HasBlocks m.cells → IsNew m r (Release a)
    → block_at m.cells b ≡ Some block → block.base ≡ a → held_at (after_request m r).cells b ≡ None) → ⊥
unfolding empty_contents
waiting_blocks_are_not_freed law =
    some_none _ (law waiting (request 0 2 (Release 0)) 0 0 (record { base = 0; length = 1; kind = I })
    (end_of-memory three_readers).blocks (record { accepted = refl; asks = refl }) refl refl)

-- ---- cells

-- `other_cells_stay`: a release changes more than the cell at its address. It frees the second cell of its block too.
a_release_changes_other_cells : ((m : Contents) (r : Request) (a b : ℕ) → HasBlocks m.cells → r.op ≡ Release a → b ≢ a
    → held_at (after_request m r).cells b ≡ held_at m.cells b) → ⊥
unfolding empty_contents
a_release_changes_other_cells law =
    some_none _ (sym (law (end_of sixteen_cells edges) (request 0 5 (Release 0)) 0 1
    (end_of-memory edges).blocks refl (differ 1 0 refl)))

-- ---- entries

-- `entry_lasts`: an entry that waits doesn't stay as it is. A store answers it.
waiting_entries_change : ((m : Contents) (command : Command) (who : Waiter) (k : Kept) → WaitingAgrees m
    → kept_for m.windows who ≡ Some k
    → IsFalse (drops command who) → kept_for (step m command).contents.windows who ≡ Some k) → ⊥
unfolding empty_contents
waiting_entries_change law =
    true_false (sym (ap waits_still
    (law waiting (Asks (request 3 1 (Store 0 7))) (waiter 1 1) (record { op = Fetch 0; entry = Waiting })
    (end_of-memory three_readers).agrees refl refl)))

-- And an answered entry doesn't stay for ever: its element confirms it, and it is dropped.
answered_entries_are_dropped :
    ((m : Contents) (commands : List Command) (who : Waiter) (k : Kept) → WaitingAgrees m → kept_for m.windows who
    ≡ Some k
    → IsFalse (is_waiting k) → kept_for (after m commands).windows who ≡ Some k) → ⊥
unfolding empty_contents
answered_entries_are_dropped law =
    some_none _ (sym (law answered (Confirm 1 2 ∷ []) (waiter 1 1) (record { op = Fetch 0; entry = Answered (Value 7) })
    (end_of-memory one_store).agrees refl refl))

-- `read_back`: what a request was told is what is kept right after it, and not for ever.
what_was_told_is_not_kept_for_ever :
    ((m : Contents) (r : Request) (entry : Entry) (commands : List Command) → WaitingAgrees m → IsAnswered m r entry
    → ask (after (after_request m r) commands).windows (asker r) ≡ Ok entry) → ⊥
unfolding empty_contents
what_was_told_is_not_kept_for_ever law =
    true_false (sym (ap waits_asked (law waiting (request 4 1 (Fetch 0)) Waiting (Asks (request 3 1 (Store 0 7)) ∷ [])
    (end_of-memory three_readers).agrees refl)))

-- `repeat_is_told_again`: a request that is sent again isn't told the same in each case. Who waited is told the answer.
a_repeat_is_told_the_answer_since :
    ((m : Contents) (r : Request) (entry : Entry) (commands : List Command) → WaitingAgrees m → IsAnswered m r entry
    → IsTold (after (after_request m r) commands) r entry) → ⊥
unfolding empty_contents
a_repeat_is_told_the_answer_since law =
    true_false (sym (ap (λ (s : Stepped). waits_told s.answer)
    (law waiting (request 4 1 (Fetch 0)) Waiting (Asks (request 3 1 (Store 0 7)) ∷ [])
    (end_of-memory three_readers).agrees refl)))

-- `number_acts_once`: a number that was refused may be accepted later, once the one before it has come.
a_refused_number_may_act_later :
    ((m : Contents) (r : Request) (commands : List Command) → IsFalse (is_accepted m (Asks r))
    → IsFalse (is_accepted (after m commands) (Asks r))) → ⊥
unfolding empty_contents
a_refused_number_may_act_later law =
    true_false (law sixteen_cells (request 0 2 (Fetch 0)) (Asks (request 0 1 (Alloc I 1)) ∷ []) refl)

-- ---- memories

-- `memory_stays_one`: no command makes a memory of what was none before it.
a_memory_needs_to_be_one :
    ((cells elements : ℕ) (m : Contents) (command : Command) → IsMemory cells elements (step m command).contents) → ⊥
a_memory_needs_to_be_one law = differ 2 0 refl ((law 1 0 listed_twice (Confirm 0 1)).agrees.listed (waiter 0 1) 0)

-- ---- places

-- `place_is_the_least`: of two free cells both could take a block of one, and only the first one is its place.
not_each_free_place_is_it :
    ((cells : List (Option Held)) (n base : ℕ) → 1 ≤ n → (place n cells ≡ Some base) ↔ IsTrue (is_free cells base n))
    → ⊥
not_each_free_place_is_it law = differ 0 1 refl (ap place_or_none ((law (None ∷ None ∷ []) 1 1 (omega arith)).1 refl))

-- And where there is no cell a block of no cell has no place, though nothing is in its way.
an_empty_block_has_no_place :
    ((cells : List (Option Held)) (n : ℕ) → (place n cells ≡ None) ↔ ((base : ℕ) → IsFalse (is_free cells base n))) → ⊥
an_empty_block_has_no_place law = true_false ((law [] 0).0 refl 0)

-- ---- runs

-- `runs_join`: the second list's answers are those of the memory after the first list.
a_run_goes_on_from_the_other :
    ((m : Contents) (earlier later : List Command) → answers m (earlier ++ later)
    ≡ answers m earlier ++ answers m later) → ⊥
unfolding empty_contents
a_run_goes_on_from_the_other law =
    true_false (ap (λ (all : List (Result Outcome Refusal)). waits_told (second_of all))
    (law sixteen_cells (Asks (request 0 1 (Alloc I 1)) ∷ []) (Asks (request 1 1 (Fetch 0)) ∷ [])))

-- And their order matters.
order_matters : ((m : Contents) (earlier later : List Command) → after m (earlier ++ later)
    ≡ after m (later ++ earlier)) → ⊥
unfolding empty_contents
order_matters law =
    differ 1 0 refl (ap (λ (m : Contents). length (waiters_at m.cells 0))
    (law sixteen_cells (Asks (request 0 1 (Alloc I 1)) ∷ []) (Asks (request 1 1 (Fetch 0)) ∷ [])))

-- `only_accepted_commands_matter`: for the memory. The others are answered too.
others_are_answered : ((m : Contents) (commands : List Command) → answers m (accepted m commands)
    ≡ answers m commands) → ⊥
unfolding empty_contents
others_are_answered law =
    differ 1 2 refl (ap length
    (law sixteen_cells (Asks (request 0 1 (Alloc I 1)) ∷ Asks (request 0 1 (Alloc I 1)) ∷ [])))

-- ---- steps

-- `accepted_where_changed`: not each command that isn't refused is accepted. A repeat isn't.
a_repeat_is_not_accepted :
    ((m : Contents) (command : Command) → IsTrue (is_accepted m command) ↔ IsOk (step m command).answer) → ⊥
unfolding empty_contents
a_repeat_is_not_accepted law = true_false (sym ((law waiting (Asks (request 1 1 (Fetch 0)))).1 refl))

-- `acceptance_tells`: what is answered may leave the memory as it is.
an_answer_may_change_nothing :
    ((m : Contents) (command : Command) → IsOk (step m command).answer → acceptance m command ≡ Ok true) → ⊥
unfolding empty_contents
an_answer_may_change_nothing law = true_false (sym (ap verdict (law waiting (Asks (request 1 1 (Fetch 0))) refl)))

-- `repeat_changes_nothing`: another operation under a kept number isn't told what is kept.
another_operation_is_not_told :
    ((m : Contents) (r : Request) (k : Kept) → kept_for m.windows (asker r) ≡ Some k → IsTold m r k.entry) → ⊥
unfolding empty_contents
another_operation_is_not_told law =
    true_false (sym (ap (λ (s : Stepped). is_told s.answer)
    (law waiting (request 1 1 (Fetch 1)) (record { op = Fetch 0; entry = Waiting }) refl)))

-- `refusals_are_of_numbers`: the sixth is met too, by a confirmation of an entry that waits.
the_sixth_refusal_is_met :
    ((m : Contents) (command : Command) (refusal : Refusal) → (step m command).answer ≡ Err refusal
    → number_of refusal ≤ 5) → ⊥
unfolding empty_contents
the_sixth_refusal_is_met law = exceeds 6 5 refl (law waiting (Confirm 1 3) NotAnswered refl)

-- ---- traces

-- `traces_join`: the second trace is judged from the first one's end on, and not from where that one began.
a_trace_goes_on_from_the_other :
    ((m : Contents) (earlier later : List Line) → IsLegal m earlier × IsLegal m later → IsLegal m (earlier ++ later))
    → ⊥
unfolding empty_contents
a_trace_goes_on_from_the_other law =
    differ 0 1 refl (ap base_told
    (law sixteen_cells (asks 0 1 (Alloc I 1) (told_reply (Base 0)) ∷ [])
    (asks 1 1 (Alloc M 2) (told_reply (Base 0)) ∷ [])
    ((refl, tt), (refl, tt))).1.0)

-- `trace_grows`: a trace that isn't legal isn't made so by a good last line.
a_good_line_mends_no_trace :
    ((m : Contents) (trace : List Line) (line : Line) → line.answer ≡ answer_to (end_of m trace) line.call
    → IsLegal m (trace ++ line ∷ [])) → ⊥
unfolding empty_contents
a_good_line_mends_no_trace law =
    differ 5 0 refl (ap base_told
    (law sixteen_cells (asks 0 1 (Alloc I 1) (told_reply (Base 5)) ∷ []) (asks 1 1 (Fetch 0) told_waits) refl).0)

-- `trace_is_a_run`: a trace that isn't legal has other answers than the run.
an_illegal_trace_is_no_run :
    ((m : Contents) (trace : List Line) → command_answers trace ≡ answers m (commands_of trace)) → ⊥
unfolding empty_contents
an_illegal_trace_is_no_run law = differ 5 0 refl
    (ap (λ (all : List (Result Outcome Refusal)). base_told (first_of all))
    (law sixteen_cells (asks 0 1 (Alloc I 1) (told_reply (Base 5)) ∷ [])))

-- ---- waiters

-- `later_request_waits_behind`: and not before them.
a_later_request_waits_not_in_front : ((m : Contents) (r : Request) (op : Op) → IsServed m r op Waiting
    → waiters_at (after_request m r).cells (address_of op) ≡ asker r ∷ waiters_at m.cells (address_of op)) → ⊥
unfolding empty_contents
a_later_request_waits_not_in_front law =
    differ 1 4 refl (ap first_element
    (law waiting (request 4 1 (Fetch 0)) (Fetch 0)
    (record { is_new = record { accepted = refl; asks = refl }; answered = refl })))

-- `store_answers_every_reader`: a store that is refused answers none.
a_refused_store_answers_nobody :
    ((m : Contents) (r : Request) (a v : ℕ) (reader : Waiter) → WaitingAgrees m → r.op ≡ Store a v
    → kept_for m.windows reader ≡ Some (record { op = Fetch a; entry = Waiting })
    → kept_for (after_request m r).windows reader ≡ Some (record { op = Fetch a; entry = Answered (Value v) })) → ⊥
unfolding empty_contents
a_refused_store_answers_nobody law =
    true_false (ap waits_still
    (law waiting (request 3 2 (Store 0 7)) 0 7 (waiter 1 1) (end_of-memory three_readers).agrees refl refl))

-- And not the first reader alone: the last one doesn't wait on.
a_store_leaves_no_reader :
    ((m : Contents) (r : Request) (a v : ℕ) (first last : Waiter) (others : List Waiter) → WaitingAgrees m
    → IsNew m r (Store a v)
    → waiters_at m.cells a ≡ first ∷ others ++ last ∷ [] → kept_for (after_request m r).windows last
    ≡ kept_for m.windows last) → ⊥
unfolding empty_contents
a_store_leaves_no_reader law =
    true_false (sym (ap waits_still
    (law waiting (request 3 1 (Store 0 7)) 0 7 (waiter 1 1) (waiter 1 2) (waiter 2 1 ∷ [])
    (end_of-memory three_readers).agrees
    (record { accepted = refl; asks = refl }) refl)))

-- `put_answers_the_first_taker`: and not the newest one.
a_put_answers_not_the_newest_taker :
    ((m : Contents) (r : Request) (a v : ℕ) (newest : Waiter) (others : List Waiter) → WaitingAgrees m
    → IsNew m r (Put a v)
    → waiters_at m.cells a ≡ others ++ newest ∷ [] → kept_for m.windows newest
    ≡ Some (record { op = Take a; entry = Waiting })
    → kept_for (after_request m r).windows newest ≡ Some (record { op = Take a; entry = Answered (Value v) })) → ⊥
unfolding empty_contents
a_put_answers_not_the_newest_taker law =
    true_false (ap waits_still
    (law two_takers (request 4 1 (Put 0 10)) 0 10 (waiter 1 1) (waiter 3 1 ∷ [])
    (end_of-memory (take 3 three_takers)).agrees
    (record { accepted = refl; asks = refl }) refl refl))

-- ---- windows

-- `request_takes_the_next_number`: a request that is told an entry that was kept takes none.
a_repeat_takes_no_number : ((m : Contents) (r : Request) → IsOk (step m (Asks r)).answer → TakesNextNumber m r) → ⊥
unfolding empty_contents
a_repeat_takes_no_number law =
    let it : TakesNextNumber waiting (request 1 1 (Fetch 0)) = law waiting (request 1 1 (Fetch 0)) refl in
    differ 3 1 refl (ap next_in it.before)

-- `confirmation_moves_the_base`: a confirmation up to the base is answered too, and moves nothing.
an_old_confirmation_moves_nothing :
    ((m : Contents) (element upto : ℕ) → (step m (Confirm element upto)).answer ≡ Ok Confirmed
    → MovesBase m element upto) → ⊥
unfolding empty_contents
an_old_confirmation_moves_nothing law =
    let it : MovesBase answered 1 1 = law answered 1 1 refl in
    exceeds 2 1 refl (subst (λ (base : ℕ). base + 1 ≤ 1) (sym (ap base_in it.before)) (omega (arith, it.rises)))

-- `bounds_never_fall`: a window grows shorter where its element confirms.
a_window_may_grow_shorter :
    ((m : Contents) (command : Command) (element base next low high : ℕ) → bounds m.windows element ≡ Ok (base, next)
    → bounds (step m command).contents.windows element ≡ Ok (low, high) → next - base ≤ high - low) → ⊥
unfolding empty_contents
a_window_may_grow_shorter law = exceeds 2 0 refl (law answered (Confirm 1 3) 1 1 3 3 3 refl refl)

-- `requests_are_judged_by_bounds`: a window has no room for a 65th entry.
a_window_has_not_65_entries :
    ((m : Contents) (r : Request) (base : ℕ) → bounds m.windows r.element ≡ Ok (base, r.number)
    → r.number < base + (WINDOW + 1) → r.number ≤ LAST
    → IsTrue (is_accepted m (Asks r))) → ⊥
unfolding empty_contents
a_window_has_not_65_entries law =
    true_false (sym (law (end_of sixteen_cells (take 65 full_window)) (request 1 65 (Fetch 0)) 1 refl (omega arith)
    (omega arith)))

-- And it has room for a 64th.
a_window_has_64_entries :
    ((m : Contents) (r : Request) (base : ℕ) → bounds m.windows r.element ≡ Ok (base, r.number) → base + 63 ≤ r.number
    → IsFalse (is_accepted m (Asks r))) → ⊥
unfolding empty_contents
a_window_has_64_entries law = true_false
    (law (end_of sixteen_cells (take 64 full_window)) (request 1 64 (Fetch 0)) 1 refl (omega arith))

-- `confirmations_drop_what_is_answered`: the last entry that a confirmation would drop has to be answered as well.
the_last_entry_has_to_be_answered :
    ((m : Contents) (element upto base next : ℕ) → bounds m.windows element ≡ Ok (base, next) → upto ≤ next
    → ((number : ℕ) (k : Kept) → number + 1 < upto → kept_for m.windows (waiter element number) ≡ Some k
    → is_waiting k ≡ false)
    → (step m (Confirm element upto)).answer ≡ Ok Confirmed) → ⊥
unfolding empty_contents
the_last_entry_has_to_be_answered law =
    true_false (ap is_refused (law waiting 1 2 1 3 refl (omega arith) none_before))
  where
    none_before : (number : ℕ) (k : Kept) → number + 1 < 2 → kept_for waiting.windows (waiter 1 number) ≡ Some k
        → is_waiting k ≡ false
    none_before zero k below is = cc
    none_before (suc n) k below is = absurd (omega (arith, below))

-- `entries_are_kept_within_bounds`: under the next number nothing is kept yet.
nothing_is_kept_under_the_next_number :
    ((windows : List Window) (who : Waiter) (base next : ℕ) → bounds windows who.element ≡ Ok (base, next)
    → base ≤ who.number → who.number ≤ next → (k : Kept) × (kept_for windows who ≡ Some k)) → ⊥
unfolding empty_contents
nothing_is_kept_under_the_next_number law =
    some_none _ (sym (law waiting.windows (waiter 1 3) 1 3 refl (omega arith) (omega arith)).1)

-- And under the base something may be.
the_base_is_not_forgotten :
    ((windows : List Window) (who : Waiter) (base next : ℕ) → bounds windows who.element ≡ Ok (base, next)
    → who.number ≤ base → ask windows who ≡ Err Forgotten) → ⊥
unfolding empty_contents
the_base_is_not_forgotten law = true_false
    (sym (ap is_refused (law waiting.windows (waiter 1 1) 1 3 refl (omega arith))))

-- `forgotten_for_ever`: a number that was confirmed and comes again isn't accepted.
a_forgotten_number_is_not_accepted :
    ((m : Contents) (r : Request) → IsForgotten m.windows (asker r) → IsTrue (is_accepted m (Asks r))) → ⊥
unfolding empty_contents
a_forgotten_number_is_not_accepted law =
    true_false (sym (law (step answered (Confirm 1 3)).contents (request 1 2 (Fetch 0))
    (record { window = record { base = 3; kept = [] }; there = refl; below = omega arith })))

-- `others_leave_acceptance`: of its own element. A request that was accepted isn't accepted once more.
its_own_request_changes_acceptance :
    ((m : Contents) (r q : Request) → is_accepted (step m (Asks r)).contents (Asks q) ≡ is_accepted m (Asks q)) → ⊥
unfolding empty_contents
its_own_request_changes_acceptance law = true_false
    (sym (law sixteen_cells (request 0 1 (Fetch 0)) (request 0 1 (Fetch 0))))

-- `groups_are_runs`, `room`: at the last count with room, which no journal has.
no_group_falls_to_the_last_count :
    ((s : Reached) (members : List Request)
    → let many = length (puts_of s members) in (reached_by_all s members).room
    ≡ (if s.count + many == LAST then 0 else s.room - many)) → ⊥
no_group_falls_to_the_last_count law = differ 5 0 refl
    (law (record { contents = sixteen_cells; count = LAST; room = 5 }) [])
