-- The effects of operations on cells. (I cells: Arvind, Nikhil, Pingali, TOPLAS 11(4), 1989. M cells: Barth, Nikhil,
-- Arvind, 1991. Own: waiters in order of arrival, and Clashed at a second write.)
use Rattle.std.specs.Prelude.{ℕ, Bool, true, false, List, [], ◌∷◌, ◌++◌, map, take, drop, if◌then◌else◌, ◌==◌}
use Rattle.std.specs.Prelude.{slice_set, Some, None, Option}
use Rattle.std.specs.List.{list_any}
use Rattle.im_types.specs.Contents.{CellState, Clashed, Empty, Full, Held, held_at}
use Rattle.im_types.specs.declared.operations.{Block.Block, Op.Op, Reply.Reply, Waiter.Waiter}
use Rattle.im_types.specs.declared.operations.Entry.{Entry, TheVariants.Answered, TheVariants.Waiting}
use Rattle.im_types.specs.declared.operations.Kind.{Kind, TheVariants.I, TheVariants.M}
use Rattle.im_types.specs.declared.operations.Op.TheVariants.{Alloc, Fetch, Put, Release, Reset, Store, Take}
use Rattle.im_types.specs.declared.operations.Reply.TheVariants.{BadLength, Base, Clash, Cleared, NoBlock, NoCell}
use Rattle.im_types.specs.declared.operations.Reply.TheVariants.{NoSpace, Released, StillWaiting, Stored, Value}
use Rattle.im_types.specs.declared.operations.Reply.TheVariants.{WrongKind}
use Rattle.im_types.specs.Place.{change_each, fill, place}

-- the state of one cell after an operation, the asker's entry, and the replies to requests that waited
pub record Served : Type 0 where
  pub state : CellState
  pub entry : Entry
  pub resumed : List (Waiter × Reply)

-- an answer at once, to the asker alone
abbrev pub tells : Reply → CellState → Served
tells reply state = record { state = state; entry = Answered reply; resumed = [] }

-- the asker waits behind the requests that wait
abbrev pub defers : Waiter → List Waiter → Served
defers who waiters = record { state = Empty (waiters ++ who ∷ []); entry = Waiting; resumed = [] }

-- a fetch of an empty cell is deferred, and a fetch of a full one gets the value
abbrev pub fetch : Waiter → CellState → Served
fetch who (Empty waiters) = defers who waiters
fetch who (Full v) = tells (Value v) (Full v)
fetch who (Clashed v) = tells Clash (Clashed v)

-- each reader that waits gets the value
abbrev pub store : ℕ → CellState → Served
store v (Empty readers) =
    record { state = Full v; entry = Answered Stored; resumed = map (λ reader. (reader, Value v)) readers }
store v (Full w) = tells Clash (Clashed w)
store v (Clashed w) = tells Clash (Clashed w)

-- a take of an empty cell waits, and a take of a full one gets the value and leaves the cell empty
abbrev pub take_from : Waiter → CellState → Served
take_from who (Empty waiters) = defers who waiters
take_from who (Full v) = tells (Value v) (Empty [])
take_from who (Clashed v) = tells Clash (Clashed v)

-- the first taker that waits gets the value, and the cell stays empty
abbrev pub put : ℕ → CellState → Served
put v (Empty []) = tells Stored (Full v)
put v (Empty (taker ∷ takers)) =
    record { state = Empty takers; entry = Answered Stored; resumed = (taker, Value v) ∷ [] }
put v (Full w) = tells Clash (Clashed w)
put v (Clashed w) = tells Clash (Clashed w)

-- the cells after an operation, the asker's entry, and the replies to requests that waited
pub record Acted : Type 0 where
  pub cells : List (Option Held)
  pub entry : Entry
  pub resumed : List (Waiter × Reply)

-- nothing changes
abbrev pub only_tells : List (Option Held) → Reply → Acted
only_tells cells reply = record { cells = cells; entry = Answered reply; resumed = [] }

-- whether two kinds are the same
abbrev pub same_kind : Kind → Kind → Bool
same_kind I I = true
same_kind M M = true
same_kind I M = false
same_kind M I = false

-- one cell is served, and the others stay as they were
abbrev pub serve_cell : List (Option Held) → ℕ → Block → Served → Acted
serve_cell cells a block served = record {
  cells = slice_set cells a (Some (record { block = block; state = served.state }));
  entry = served.entry;
  resumed = served.resumed;
}

-- one cell, in a block of the operation's kind
abbrev pub at_cell : Kind → (CellState → Served) → List (Option Held) → ℕ → Option Held → Acted
at_cell kind serve cells a None = only_tells cells NoCell
at_cell kind serve cells a (Some held) =
    if same_kind kind held.block.kind then serve_cell cells a held.block (serve held.state)
    else only_tells cells WrongKind

-- a new block's cells
abbrev pub new_cell : ℕ → ℕ → Kind → Option Held
new_cell base n kind = Some (record { block = record { base = base; length = n; kind = kind }; state = Empty [] })

-- a block at the place that was found, if there is one
abbrev pub allocate_at : List (Option Held) → Kind → ℕ → Option ℕ → Acted
allocate_at cells kind n None = only_tells cells NoSpace
allocate_at cells kind n (Some base) =
    record { cells = fill cells base n (new_cell base n kind); entry = Answered (Base base); resumed = [] }

-- a block of n cells, at the least place
abbrev pub allocate : List (Option Held) → Kind → ℕ → Acted
allocate cells kind n = if n == 0 then only_tells cells BadLength else allocate_at cells kind n (place n cells)

-- the block whose base is this address
abbrev pub block_with_base : ℕ → Option Held → Option Block
block_with_base a None = None
block_with_base a (Some held) = if held.block.base == a then Some held.block else None

-- whether requests wait for a cell in this state
abbrev pub has_waiter : CellState → Bool
has_waiter (Empty []) = false
has_waiter (Empty (waiter ∷ waiters)) = true
has_waiter (Full v) = false
has_waiter (Clashed v) = false

-- whether requests wait for this cell
abbrev pub is_waiting_cell : Option Held → Bool
is_waiting_cell None = false
is_waiting_cell (Some held) = has_waiter held.state

-- a change of the cells by their block, with this reply, unless requests wait for one of the block's cells
abbrev pub unless_waited_for : (Block → List (Option Held)) → Reply → List (Option Held) → ℕ → Option Block → Acted
unless_waited_for after reply cells a None = only_tells cells NoBlock
unless_waited_for after reply cells a (Some block) =
    if list_any is_waiting_cell (take block.length (drop a cells))
    then only_tells cells StillWaiting
    else record { cells = after block; entry = Answered reply; resumed = [] }

-- the release of a block: its cells are freed
abbrev pub release_block : List (Option Held) → ℕ → Option Block → Acted
release_block cells a = unless_waited_for (λ block. fill cells a block.length None) Released cells a

-- a cell of a block, made empty
abbrev pub emptied : Option Held → Option Held
emptied None = None
emptied (Some held) = Some (record { block = held.block; state = Empty [] })

-- the reset of a block: its cells are emptied
abbrev pub reset_block : List (Option Held) → ℕ → Option Block → Acted
reset_block cells a = unless_waited_for (λ block. change_each emptied cells a block.length) Cleared cells a

-- an asker's operation on the cells
abbrev pub act : List (Option Held) → Waiter → Op → Acted
act cells who (Alloc kind n) = allocate cells kind n
act cells who (Release a) = release_block cells a (block_with_base a (held_at cells a))
act cells who (Reset a) = reset_block cells a (block_with_base a (held_at cells a))
act cells who (Fetch a) = at_cell I (fetch who) cells a (held_at cells a)
act cells who (Store a v) = at_cell I (store v) cells a (held_at cells a)
act cells who (Take a) = at_cell M (take_from who) cells a (held_at cells a)
act cells who (Put a v) = at_cell M (put v) cells a (held_at cells a)
