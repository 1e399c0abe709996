-- Worked traces, and the entries that the laws over histories give. (Own.)
use Rattle.std.specs.Prelude.{ℕ, zero, suc, ◌+◌, List, [], ◌∷◌, ◌++◌, map, Some, None, Ok, Err, Option, Result}
use Rattle.im_types.specs.Types.{Entry, Kind, Op, Reply, Waiter, Waiting, Answered, I, M, Alloc, Release, Reset, Fetch}
use Rattle.im_types.specs.Types.{Store, Take, Put, Base, NoSpace, BadLength, Value, Stored, Clash, NoCell, WrongKind}
use Rattle.im_types.specs.Types.{Released, NoBlock, StillWaiting, Cleared, Command, Outcome, Line, Asks, Confirm, Tells}
use Rattle.im_types.specs.Types.{Confirmed, Commands, Collect, Refusal, Gap, Forgotten, WindowFull, Mismatch, NoElement}
use Rattle.im_types.specs.Types.{NotAnswered, Contents, empty_contents, asker, Event, events, Life, lives, last_entry}
use Rattle.im_types.specs.Types.{lawful_entry}

-- an empty memory of 16 cells and 16 elements
abbrev pub sixteen_cells : Contents
sixteen_cells = empty_contents 16 16

-- the smallest memory
abbrev pub one_cell : Contents
one_cell = empty_contents 1 1

-- a waiting request, by its element and its number
abbrev pub waiter : ℕ → ℕ → Waiter
waiter element number = record { element = element; number = number }

-- the line of a request of an element under a number, and its answer
abbrev pub asks : ℕ → ℕ → Op → Result Outcome Refusal → Line
asks element number op answer =
    record { call = Commands (Asks (record { element = element; number = number; op = op })); answer = answer }

-- a confirmation, and its answer
abbrev pub confirms : ℕ → ℕ → Result Outcome Refusal → Line
confirms element upto answer = record { call = Commands (Confirm element upto); answer = answer }

-- a question for an entry, and its answer
abbrev pub collects : ℕ → ℕ → Result Outcome Refusal → Line
collects element number answer = record { call = Collect element number; answer = answer }

-- the answer to a request that has this reply
abbrev pub told_reply : Reply → Result Outcome Refusal
told_reply reply = Ok (Tells (Answered reply))

-- the answer to a request that is deferred
abbrev pub told_waits : Result Outcome Refusal
told_waits = Ok (Tells Waiting)

-- the answer to a confirmation that succeeds
abbrev pub confirmed : Result Outcome Refusal
confirmed = Ok Confirmed

-- three readers wait
abbrev pub three_readers : List Line
three_readers =
    asks 0 1 (Alloc I 1) (told_reply (Base 0))
    ∷ asks 1 1 (Fetch 0) told_waits
    ∷ asks 2 1 (Fetch 0) told_waits
    ∷ asks 1 2 (Fetch 0) told_waits
    ∷ []

-- one store answers all of them
abbrev pub one_store : List Line
one_store =
    three_readers
    ++ asks 3 1 (Store 0 7) (told_reply Stored)
    ∷ collects 1 1 (told_reply (Value 7))
    ∷ collects 2 1 (told_reply (Value 7))
    ∷ collects 1 2 (told_reply (Value 7))
    ∷ []

-- a second store clashes for good, even with the same value
abbrev pub second_store : List Line
second_store =
    asks 0 1 (Alloc I 1) (told_reply (Base 0))
    ∷ asks 1 1 (Store 0 5) (told_reply Stored)
    ∷ asks 1 2 (Fetch 0) (told_reply (Value 5))
    ∷ asks 1 3 (Store 0 5) (told_reply Clash)
    ∷ asks 1 4 (Fetch 0) (told_reply Clash)
    ∷ collects 1 2 (told_reply (Value 5))
    ∷ []

-- takers are served in their order of arrival
abbrev pub three_takers : List Line
three_takers =
    asks 0 1 (Alloc M 1) (told_reply (Base 0))
    ∷ asks 3 1 (Take 0) told_waits
    ∷ asks 1 1 (Take 0) told_waits
    ∷ asks 2 1 (Take 0) told_waits
    ∷ asks 4 1 (Put 0 10) (told_reply Stored)
    ∷ asks 4 2 (Put 0 20) (told_reply Stored)
    ∷ collects 3 1 (told_reply (Value 10))
    ∷ collects 1 1 (told_reply (Value 20))
    ∷ collects 2 1 told_waits
    ∷ asks 4 3 (Put 0 30) (told_reply Stored)
    ∷ collects 2 1 (told_reply (Value 30))
    ∷ []

-- a put on a full cell clashes
abbrev pub second_put : List Line
second_put =
    asks 0 1 (Alloc M 1) (told_reply (Base 0))
    ∷ asks 1 1 (Put 0 1) (told_reply Stored)
    ∷ asks 1 2 (Put 0 2) (told_reply Clash)
    ∷ asks 1 3 (Take 0) (told_reply Clash)
    ∷ []

-- lengths and addresses that don't fit
abbrev pub edges : List Line
edges =
    asks 0 1 (Alloc I 16) (told_reply (Base 0))
    ∷ asks 0 2 (Alloc I 1) (told_reply NoSpace)
    ∷ asks 0 3 (Alloc I 0) (told_reply BadLength)
    ∷ asks 0 4 (Alloc M 17) (told_reply NoSpace)
    ∷ asks 1 1 (Fetch 16) (told_reply NoCell)
    ∷ asks 1 2 (Fetch 0xFFFF_FFFF) (told_reply NoCell)
    ∷ []

-- the least hole that is large enough is taken
abbrev pub least_hole : List Line
least_hole =
    asks 0 1 (Alloc I 2) (told_reply (Base 0))
    ∷ asks 0 2 (Alloc I 3) (told_reply (Base 2))
    ∷ asks 0 3 (Alloc M 2) (told_reply (Base 5))
    ∷ asks 0 4 (Release 2) (told_reply Released)
    ∷ asks 0 5 (Alloc I 4) (told_reply (Base 7))
    ∷ asks 0 6 (Alloc I 3) (told_reply (Base 2))
    ∷ asks 0 7 (Release 3) (told_reply NoBlock)
    ∷ asks 1 1 (Fetch 5) (told_reply WrongKind)
    ∷ []

-- a block with a waiting cell stays, and that answer is kept
abbrev pub waiting_block : List Line
waiting_block =
    asks 0 1 (Alloc I 1) (told_reply (Base 0))
    ∷ asks 1 1 (Fetch 0) told_waits
    ∷ asks 0 2 (Release 0) (told_reply StillWaiting)
    ∷ asks 2 1 (Store 0 9) (told_reply Stored)
    ∷ asks 0 3 (Release 0) (told_reply Released)
    ∷ asks 0 2 (Release 0) (told_reply StillWaiting)
    ∷ asks 1 2 (Fetch 0) (told_reply NoCell)
    ∷ collects 1 1 (told_reply (Value 9))
    ∷ asks 0 4 (Alloc I 1) (told_reply (Base 0))
    ∷ asks 1 3 (Fetch 0) told_waits
    ∷ []

-- a request that comes again acts once
abbrev pub sent_again : List Line
sent_again =
    asks 0 1 (Alloc I 1) (told_reply (Base 0))
    ∷ asks 1 1 (Fetch 0) told_waits
    ∷ asks 1 1 (Fetch 0) told_waits
    ∷ asks 1 1 (Fetch 1) (Err Mismatch)
    ∷ asks 1 3 (Fetch 0) (Err Gap)
    ∷ asks 1 0 (Fetch 0) (Err Forgotten)
    ∷ asks 16 1 (Fetch 0) (Err NoElement)
    ∷ asks 2 1 (Store 0 3) (told_reply Stored)
    ∷ asks 1 1 (Fetch 0) (told_reply (Value 3))
    ∷ []

-- n fetches of cell 0 by element 1, from this number on, each of which waits
abbrev pub fetches_that_wait : ℕ → ℕ → List Line
fetches_that_wait zero number = []
fetches_that_wait (suc more) number = asks 1 number (Fetch 0) told_waits ∷ fetches_that_wait more (number + 1)

-- sixty-four waiting entries fill a window, and none leaves it before it is answered
abbrev pub full_window : List Line
full_window =
    asks 0 1 (Alloc I 1) (told_reply (Base 0))
    ∷ fetches_that_wait 64 1
    ++ asks 1 65 (Fetch 0) (Err WindowFull)
    ∷ confirms 1 2 (Err NotAnswered)
    ∷ confirms 1 66 (Err Gap)
    ∷ asks 2 1 (Store 0 8) (told_reply Stored)
    ∷ confirms 1 65 confirmed
    ∷ asks 1 1 (Fetch 0) (Err Forgotten)
    ∷ asks 1 65 (Fetch 0) (told_reply (Value 8))
    ∷ confirms 1 1 confirmed
    ∷ []

-- a block that is reset while a request waits for a cell of it, and when none waits
abbrev pub block_reset : List Line
block_reset =
    asks 0 1 (Alloc I 2) (told_reply (Base 0))
    ∷ asks 1 1 (Store 0 5) (told_reply Stored)
    ∷ asks 1 2 (Store 0 6) (told_reply Clash)
    ∷ asks 0 2 (Reset 0) (told_reply Cleared)
    ∷ asks 1 3 (Fetch 0) told_waits
    ∷ asks 0 3 (Reset 0) (told_reply StillWaiting)
    ∷ asks 1 4 (Store 0 6) (told_reply Stored)
    ∷ collects 1 3 (told_reply (Value 6))
    ∷ asks 0 4 (Reset 1) (told_reply NoBlock)
    ∷ []

-- one cell and one element
abbrev pub least_memory : List Line
least_memory =
    asks 0 1 (Alloc I 1) (told_reply (Base 0))
    ∷ asks 0 2 (Fetch 0) told_waits
    ∷ asks 0 3 (Store 0 0) (told_reply Stored)
    ∷ collects 0 2 (told_reply (Value 0))
    ∷ asks 1 1 (Fetch 0) (Err NoElement)
    ∷ []

-- fetches before a store, after it, and after a second one
abbrev pub fetches : List Line
fetches =
    asks 0 1 (Alloc I 1) (told_reply (Base 0))
    ∷ asks 1 1 (Fetch 0) told_waits
    ∷ asks 2 1 (Store 0 7) (told_reply Stored)
    ∷ asks 1 2 (Fetch 0) (told_reply (Value 7))
    ∷ asks 2 2 (Store 0 7) (told_reply Clash)
    ∷ asks 1 3 (Fetch 0) (told_reply Clash)
    ∷ []

-- takes that come before their puts, and then puts that outnumber the takes
abbrev pub takes_and_puts : List Line
takes_and_puts =
    asks 0 1 (Alloc M 1) (told_reply (Base 0))
    ∷ asks 1 1 (Take 0) told_waits
    ∷ asks 1 2 (Take 0) told_waits
    ∷ asks 2 1 (Put 0 10) (told_reply Stored)
    ∷ asks 2 2 (Put 0 20) (told_reply Stored)
    ∷ asks 2 3 (Put 0 30) (told_reply Stored)
    ∷ asks 2 4 (Put 0 40) (told_reply Clash)
    ∷ asks 1 3 (Take 0) (told_reply Clash)
    ∷ asks 2 5 (Put 0 50) (told_reply Clash)
    ∷ []

-- two lives at one address, and an entry that was dropped
abbrev pub two_lives : List Line
two_lives =
    asks 0 1 (Alloc I 1) (told_reply (Base 0))
    ∷ asks 1 1 (Store 0 5) (told_reply Stored)
    ∷ asks 1 2 (Fetch 0) (told_reply (Value 5))
    ∷ confirms 1 3 confirmed
    ∷ asks 0 2 (Release 0) (told_reply Released)
    ∷ asks 0 3 (Alloc I 2) (told_reply (Base 0))
    ∷ asks 1 3 (Fetch 0) told_waits
    ∷ asks 1 4 (Fetch 1) told_waits
    ∷ []

-- for each request of a life, the entry that the laws give, if they give one, beside the last entry that it had
abbrev pub beside : Contents → List Command → Kind → ℕ → List Event → List Event → List Event
    → List (Option Entry × Option Entry)
beside m commands kind a all before [] = []
beside m commands kind a all before (event ∷ later) =
    (lawful_entry kind a all before event event.request.op, last_entry m commands (asker event.request))
    ∷ beside m commands kind a all (before ++ event ∷ []) later

-- the same for each life of a run
abbrev pub in_lives : Contents → List Command → ℕ → List (List (Option Entry × Option Entry))
in_lives m commands a =
    map (λ (life : Life). beside m commands life.kind a life.requests [] life.requests) (lives (events m commands))

-- the laws give this entry, and it is the last one that the request had
abbrev pub lawful : Entry → Option Entry × Option Entry
lawful entry = (Some entry, Some entry)

-- an entry for which the laws give none
abbrev pub unsaid : Entry → Option Entry × Option Entry
unsaid entry = (None, Some entry)

-- the entries of those takes and puts, in one life: the laws give each of them
abbrev pub entries_of_takes_and_puts : List (List (Option Entry × Option Entry))
entries_of_takes_and_puts =
    map lawful
    (Answered (Value 10) ∷ Answered (Value 20) ∷ Answered Stored ∷ Answered Stored ∷ Answered Stored ∷ Answered Clash
    ∷ Answered Clash ∷ Answered Clash ∷ []) ∷ []

-- the entries of the block that is reset: those before the reset are of a life of their own
abbrev pub entries_of_block_reset : List (List (Option Entry × Option Entry))
entries_of_block_reset =
    (unsaid (Answered Stored) ∷ unsaid (Answered Clash) ∷ [])
    ∷ (lawful (Answered (Value 6)) ∷ unsaid (Answered StillWaiting) ∷ unsaid (Answered Stored)
    ∷ unsaid (Answered NoBlock) ∷ []) ∷ []
