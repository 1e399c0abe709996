-- Laws over whole histories of requests. They count requests, and use no states of cells. (Own; what they say of one
-- cell: Arvind, Nikhil, Pingali, TOPLAS 11(4), 1989, and Barth, Nikhil, Arvind, 1991.)
use Rattle.std.specs.Prelude.{◌≡◌, ℕ, ◌+◌, ◌<◌, ◌≤◌, Bool, false, ◌&&◌, ◌||◌, List, [], ◌∷◌, ◌++◌, length, is_some}
use Rattle.std.specs.Prelude.{IfSome, if◌then◌else◌, nat_lt, ◌==◌, slice_get, Some, None, count_by, filter_map, Option}
use Rattle.std.specs.Prelude.{option_map}
use Rattle.std.specs.List.{AllByRecursion}
use Rattle.im_types.specs.{Act.act, Contents.Contents, Contents.kept_for, declared.commands.Request.Request, Step.asker}
use Rattle.im_types.specs.{Step.is_fresh, Step.step, Window.judge}
use Rattle.im_types.specs.declared.commands.Command.{Command, TheVariants.Confirm, TheVariants.Request as Asks}
use Rattle.im_types.specs.declared.operations.Entry.{Entry, TheVariants.Answered, TheVariants.Waiting}
use Rattle.im_types.specs.declared.operations.{Kept.Kept, Op.Op, Waiter.Waiter}
use Rattle.im_types.specs.declared.operations.Kind.{Kind, TheVariants.I, TheVariants.M}
use Rattle.im_types.specs.declared.operations.Op.TheVariants.{Alloc, Fetch, Put, Release, Reset, Store, Take}
use Rattle.im_types.specs.declared.operations.Reply.TheVariants.{Base, Clash, Cleared, Released, Stored, Value}

-- an accepted request, with the entry that it was given at once
pub record Event : Type 0 where
  pub request : Request
  pub entry : Entry

-- the event of a command, if it is an accepted request
abbrev pub event_of : Contents → Command → List Event
event_of m (Asks r) =
    if is_fresh (judge m.windows r) then record { request = r; entry = (act m.cells (asker r) r.op).entry } ∷ [] else []
event_of m (Confirm element upto) = []

-- the accepted requests of a run
abbrev pub events : Contents → List Command → List Event
events m [] = []
events m (command ∷ commands) = event_of m command ++ events (step m command).contents commands

-- the block with this base was released
abbrev pub releases : ℕ → Op → Entry → Bool
releases base (Release a) (Answered Released) = base == a
releases base op entry = false

-- the cells of the block with this base were emptied
abbrev pub clears : ℕ → Op → Entry → Bool
clears base (Reset a) (Answered Cleared) = base == a
clears base op entry = false

-- a life of the block with this base ends: it was released, or its cells were emptied
abbrev pub ends_life : ℕ → Op → Entry → Bool
ends_life base op entry = releases base op entry || clears base op entry

-- the events before the end of the block's life
abbrev pub until_end : ℕ → List Event → List Event
until_end base [] = []
until_end base (event ∷ events) =
    if ends_life base event.request.op event.entry then [] else event ∷ until_end base events

-- a life of a block: its kind, its base, the number of its cells, and the requests from its allocation or a reset to
-- its release or its next reset
pub record Life : Type 0 where
  pub kind : Kind
  pub base : ℕ
  pub cells : ℕ
  pub requests : List Event

-- the life of a block from these events on
abbrev pub life_of : Kind → ℕ → ℕ → List Event → Life
life_of kind base n later = record { kind = kind; base = base; cells = n; requests = until_end base later }

-- the lives of a block that begin with a reset, up to its release
abbrev pub lives_by_reset : Kind → ℕ → ℕ → List Event → List Life
lives_by_reset kind base n [] = []
lives_by_reset kind base n (event ∷ events) =
    if releases base event.request.op event.entry then []
    else if clears base event.request.op event.entry then life_of kind base n events ∷ lives_by_reset kind base n events
    else lives_by_reset kind base n events

-- the lives of the block that this event allocates, if it was answered with a base
abbrev pub lives_from : Op → Entry → List Event → List Life
lives_from (Alloc kind n) (Answered (Base base)) later = life_of kind base n later ∷ lives_by_reset kind base n later
lives_from op entry later = []

-- the lives of all blocks, those of each block together, in the order of their allocation
abbrev pub lives : List Event → List Life
lives [] = []
lives (event ∷ events) = lives_from event.request.op event.entry events ++ lives events

-- the entry that is kept now, or else the one that was kept before
abbrev pub latest : Option Kept → Option Kept → Option Kept
latest None before = before
latest (Some kept) before = Some kept

-- the last entry that was kept for a continuation during a list of commands
abbrev pub last_kept : Contents → List Command → Waiter → Option Kept → Option Kept
last_kept m [] who before = latest (kept_for m.windows who) before
last_kept m (command ∷ commands) who before =
    last_kept (step m command).contents commands who (latest (kept_for m.windows who) before)

-- the entry of a request at the end of a list of commands, or the one that it had when it was dropped
abbrev pub last_entry : Contents → List Command → Waiter → Option Entry
last_entry m commands who = option_map (λ kept. kept.entry) (last_kept m commands who None)

-- the value that an operation stores at an address
abbrev pub value_stored : ℕ → Op → Option ℕ
value_stored a (Store b v) = if a == b then Some v else None
value_stored a op = None

-- the value that an operation puts at an address
abbrev pub value_put : ℕ → Op → Option ℕ
value_put a (Put b v) = if a == b then Some v else None
value_put a op = None

-- whether an operation takes from an address
abbrev pub is_take : ℕ → Op → Bool
is_take a (Take b) = a == b
is_take a op = false

-- the values stored at an address, in order
abbrev pub stores : ℕ → List Event → List ℕ
stores a events = filter_map (λ event. value_stored a event.request.op) events

-- the values put at an address, in order
abbrev pub puts : ℕ → List Event → List ℕ
puts a events = filter_map (λ event. value_put a event.request.op) events

-- the number of takes from an address
abbrev pub takes : ℕ → List Event → ℕ
takes a events = count_by (λ event. is_take a event.request.op) events

-- a value, or Waiting if there is none
abbrev pub value_or_waiting : Option ℕ → Entry
value_or_waiting None = Waiting
value_or_waiting (Some v) = Answered (Value v)

-- a fetch has the first value stored in the whole life, earlier or later; after a second store it is a clash
abbrev pub entry_of_fetch : List ℕ → List ℕ → Entry
entry_of_fetch before all = if nat_lt (length before) 2 then value_or_waiting (slice_get all 0) else Answered Clash

-- whether a put clashes first among the later events, after the earlier ones: it does if more puts than takes came
-- before it
abbrev pub has_clash : ℕ → List Event → List Event → Bool
has_clash a earlier [] = false
has_clash a earlier (event ∷ later) =
    (is_some (value_put a event.request.op) && nat_lt (takes a earlier) (length (puts a earlier)))
    || has_clash a (earlier ++ event ∷ []) later

-- before the first clash, the k-th take has the value of the k-th put of the whole life; after it, a take has a clash
abbrev pub entry_of_take : ℕ → List Event → List Event → Entry
entry_of_take a before all =
    if has_clash a [] before then Answered Clash else value_or_waiting (slice_get (puts a all) (takes a before))

-- the put that clashes first has a clash, and so has each put after it
abbrev pub entry_of_put : ℕ → List Event → Event → Entry
entry_of_put a before event = if has_clash a [] (before ++ event ∷ []) then Answered Clash else Answered Stored

-- the entry that the laws give to a request on a cell, from the requests before it and all requests of the block's
-- life; None if they give none
abbrev pub lawful_entry : Kind → ℕ → List Event → List Event → Event → Op → Option Entry
lawful_entry I a all before event (Fetch b) =
    if a == b then Some (entry_of_fetch (stores a before) (stores a all)) else None
lawful_entry M a all before event (Take b) = if a == b then Some (entry_of_take a before all) else None
lawful_entry M a all before event (Put b v) = if a == b then Some (entry_of_put a before event) else None
lawful_entry kind a all before event op = None

-- P holds of each element and the elements before it
abbrev pub EachAfter : {X : Type 0} → (List X → X → Type 0) → List X → Type 0
EachAfter {X} P xs = (before later : List X) (x : X) → xs ≡ before ++ x ∷ later → P before x

-- each request on a cell of the block has in the end the entry that the laws give
abbrev pub IsLawfulLife : Contents → List Command → Life → Type 0
IsLawfulLife m commands life =
    (a : ℕ) → life.base ≤ a → a < life.base + life.cells → EachAfter (λ before event.
    IfSome (lawful_entry life.kind a life.requests before event event.request.op)
    (λ entry. last_entry m commands (asker event.request) ≡ Some entry)) life.requests

-- The value law, of the lives of I blocks: a fetch has the first value that is stored, before or after it; after a
-- second store it has a clash.
abbrev pub ValueLaw : Contents → List Command → Type 0
ValueLaw m commands = AllByRecursion (λ life. life.kind ≡ I → IsLawfulLife m commands life) (lives (events m commands))

-- The matching law, of the lives of M blocks: the k-th take has the value of the k-th put, up to the first clash.
abbrev pub MatchingLaw : Contents → List Command → Type 0
MatchingLaw m commands =
    AllByRecursion (λ life. life.kind ≡ M → IsLawfulLife m commands life) (lives (events m commands))
