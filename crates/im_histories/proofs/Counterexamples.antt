-- No law of histories says more than it does: each one with an answer changed fails at commands that are written out in the
-- worked traces of `im_laws`. The definitions compute the lives and the entries.
use Rattle.std.proofs.Common.{◌≡◌, ℕ, ◌+◌, ◌<◌, ◌≤◌, List, [], ◌∷◌, reverse, IfSome, Some, Option, refl, ap, arith}
use Rattle.std.specs.List.{AllByRecursion}
use Rattle.im_types.specs.Types.{Entry, Op, Waiting, Answered, I, M, Fetch, Store, Take, Put, Value, Stored, Clash}
use Rattle.im_types.specs.Types.{Command, Contents, empty_contents, asker, Event, events, lives, last_entry}
use Rattle.im_types.specs.Types.{lawful_entry, EachAfter}
use Rattle.im_types.proofs.Tests.{differ}
use Rattle.im_laws.specs.{Examples.fetches, Examples.takes_and_puts, Traces.commands_of}

-- the value of an entry
abbrev value_in : Option Entry → ℕ
value_in (Some (Answered (Value v))) = v
value_in other = 99

-- the value law, but with a value after the second store too: as if no store came before any fetch
abbrev AlwaysTheFirstValue : Contents → List Command → Type 0
AlwaysTheFirstValue m commands = AllByRecursion
    (λ life. life.kind ≡ I → (a : ℕ) → life.base ≤ a → a < life.base + life.cells → EachAfter (λ before event.
    IfSome (lawful_entry I a life.requests [] event event.request.op)
    (λ entry. last_entry m commands (asker event.request) ≡ Some entry)) life.requests)
    (lives (events m commands))

-- the matching law, but of the requests in reverse: the first take has the last value that was put
abbrev MatchesInReverse : Contents → List Command → Type 0
MatchesInReverse m commands = AllByRecursion
    (λ life. life.kind ≡ M → (a : ℕ) → life.base ≤ a → a < life.base + life.cells → EachAfter (λ before event.
    IfSome (lawful_entry M a (reverse life.requests) before event event.request.op)
    (λ entry. last_entry m commands (asker event.request) ≡ Some entry)) life.requests)
    (lives (events m commands))

-- the law of entries, but who waits waits for ever
abbrev WaitsForEver : Contents → List Command → Type 0
WaitsForEver m commands = AllByRecursion
    (λ event. event.entry ≡ Waiting → last_entry m commands (asker event.request) ≡ Some Waiting) (events m commands)

-- an event of these traces
abbrev event : ℕ → ℕ → Op → Entry → Event
event element number op entry = record { request = record { element = element; number = number; op = op }; entry = entry }

-- `value_law`: the fetch after the second store is a clash, and hasn't the value 7.
a_value_after_the_second_store :
    ((cells elements : ℕ) (commands : List Command) → AlwaysTheFirstValue (empty_contents cells elements) commands) → ⊥
unfolding empty_contents
a_value_after_the_second_store law =
    differ 99 7 refl (ap value_in ((law 16 16 (commands_of fetches)).0 refl 0 (omega arith) (omega arith)
    (event 1 1 (Fetch 0) Waiting ∷ event 2 1 (Store 0 7) (Answered Stored) ∷ event 1 2 (Fetch 0)
    (Answered (Value 7)) ∷ event 2 2 (Store 0 7) (Answered Clash) ∷ [])
    [] (event 1 3 (Fetch 0) (Answered Clash)) refl))

-- `matching_law`: the first take has the value of the first put, 10, and not that of the last one.
the_last_put_is_not_matched_first :
    ((cells elements : ℕ) (commands : List Command) → MatchesInReverse (empty_contents cells elements) commands) → ⊥
unfolding empty_contents
the_last_put_is_not_matched_first law =
    differ 10 50 refl (ap value_in ((law 16 16 (commands_of takes_and_puts)).0 refl 0 (omega arith) (omega arith) []
    (event 1 2 (Take 0) Waiting ∷ event 2 1 (Put 0 10) (Answered Stored) ∷ event 2 2 (Put 0 20)
    (Answered Stored) ∷ event 2 3 (Put 0 30) (Answered Stored)
    ∷ event 2 4 (Put 0 40) (Answered Clash) ∷ event 1 3 (Take 0) (Answered Clash) ∷ event 2 5 (Put 0 50)
    (Answered Clash) ∷ [])
    (event 1 1 (Take 0) Waiting) refl))

-- `entry_law`: a fetch that waits has its value once a store comes.
a_reader_waits_not_for_ever :
    ((cells elements : ℕ) (commands : List Command) → WaitsForEver (empty_contents cells elements) commands) → ⊥
unfolding empty_contents
a_reader_waits_not_for_ever law = differ 7 99 refl (ap value_in ((law 16 16 (commands_of fetches)).1.0 refl))
