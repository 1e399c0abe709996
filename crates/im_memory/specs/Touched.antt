-- The records that a command may change. (Own.)
use Rattle.std.specs.Prelude.{◌≡◌, ℕ, zero, suc, ◌≢◌, List, [], ◌∷◌, map, length, if◌then◌else◌, slice_get}
use Rattle.std.specs.Prelude.{slice_index_or, Some, None, Option}
use Rattle.im_types.specs.Types.{Kind, Op, Reply, Waiter, Block, I, M, Alloc, Release, Reset, Fetch, Store, Take, Put}
use Rattle.im_types.specs.Types.{Command, Asks, Confirm, NONE, CellState, Empty, Full, Clashed, Held, held_at, place}
use Rattle.im_types.specs.Types.{same_kind, block_with_base, act, asker, PresenceTag, CellRecord, NodeRecord, TagEmpty}
use Rattle.im_types.specs.Types.{FreeCell, BlockCell, tag_first, tag_last, Records}
use Rattle.im_arena.specs.{Chain.along, Lists.free_record, Lists.link_of}
use Rattle.im_memory.specs.State.{MemoryState}

-- the tag of a cell's record; a free cell's is Empty
abbrev pub tag_in : CellRecord → PresenceTag
tag_in (FreeCell hole next) = TagEmpty
tag_in (BlockCell block tag) = tag

-- the tag at an address
abbrev pub tag_at : Records → ℕ → PresenceTag
tag_at r a = tag_in (slice_index_or r.cells a (FreeCell 0 NONE))

-- the first node of the list of a cell, as its record names it
abbrev pub first_at : Records → ℕ → ℕ
first_at r a = tag_first (tag_at r a)

-- the last node of that list
abbrev pub last_at : Records → ℕ → ℕ
last_at r a = tag_last (tag_at r a)

-- the node after another one
abbrev pub next_at : List NodeRecord → ℕ → ℕ
next_at nodes n = link_of (slice_index_or nodes n free_record)

-- n nodes of a list, from its first one on
abbrev pub nodes_from : List NodeRecord → ℕ → ℕ → List ℕ
nodes_from nodes first count = along (λ n. n) (next_at nodes) first count

-- n addresses from this one on
abbrev pub addresses : ℕ → ℕ → List ℕ
addresses base zero = []
addresses base (suc n) = base ∷ addresses (suc base) n

-- the cells, by address, and the waiter nodes whose records an operation may change
pub record Places : Type 0 where
  pub cells : List ℕ
  pub nodes : List ℕ

-- no record of a cell or a node
abbrev pub nowhere : Places
nowhere = record { cells = []; nodes = [] }

-- the record of one cell
abbrev pub cell_alone : ℕ → Places
cell_alone a = record { cells = a ∷ []; nodes = [] }

-- the nodes that change if a request is put behind these: the spare node and, if requests wait already, the last node
-- before it
abbrev pub nodes_behind : ℕ → ℕ → List Waiter → List ℕ
nodes_behind spare last [] = spare ∷ []
nodes_behind spare last (waiter ∷ waiters) = spare ∷ last ∷ []

-- the places of a fetch of a cell in this state, with the spare node and the last node of the cell's list
abbrev pub by_fetch : ℕ → ℕ → ℕ → CellState → Places
by_fetch spare last a (Empty waiters) = record { cells = a ∷ []; nodes = nodes_behind spare last waiters }
by_fetch spare last a (Full v) = nowhere
by_fetch spare last a (Clashed v) = nowhere

-- the places of a store, if the list of the cell begins at this node: the nodes of all readers are freed
abbrev pub by_store : List NodeRecord → ℕ → ℕ → CellState → Places
by_store nodes first a (Empty readers) = record { cells = a ∷ []; nodes = nodes_from nodes first (length readers) }
by_store nodes first a (Full v) = cell_alone a
by_store nodes first a (Clashed v) = cell_alone a

-- the places of a take
abbrev pub by_take : ℕ → ℕ → ℕ → CellState → Places
by_take spare last a (Empty waiters) = record { cells = a ∷ []; nodes = nodes_behind spare last waiters }
by_take spare last a (Full v) = cell_alone a
by_take spare last a (Clashed v) = cell_alone a

-- the places of a put: the node of the first taker is freed
abbrev pub by_put : ℕ → ℕ → CellState → Places
by_put first a (Empty []) = cell_alone a
by_put first a (Empty (taker ∷ takers)) = record { cells = a ∷ []; nodes = first ∷ [] }
by_put first a (Full v) = cell_alone a
by_put first a (Clashed v) = cell_alone a

-- the value of this function at a cell of the operation's kind; else the value for none
abbrev pub at_kind : {X : Type 0} → X → Kind → (CellState → X) → Option Held → X
at_kind none kind by None = none
at_kind none kind by (Some held) = if same_kind kind held.block.kind then by held.state else none

-- the places at a cell of the operation's kind
abbrev pub places_at : Kind → (CellState → Places) → Option Held → Places
places_at kind by held = at_kind nowhere kind by held

-- the places of n cells from a base on, if there is one
abbrev pub made_places : ℕ → Option ℕ → Places
made_places n None = nowhere
made_places n (Some base) = record { cells = addresses base n; nodes = [] }

-- the places of a block's cells, if there is one
abbrev pub places_of : Option Block → Places
places_of None = nowhere
places_of (Some block) = record { cells = addresses block.base block.length; nodes = [] }

-- the places of an operation on these cells, with these records and this spare node
abbrev pub touched_places : List (Option Held) → Records → ℕ → Op → Places
touched_places cells r spare (Alloc kind n) = made_places n (place n cells)
touched_places cells r spare (Release a) = places_of (block_with_base a (held_at cells a))
touched_places cells r spare (Reset a) = places_of (block_with_base a (held_at cells a))
touched_places cells r spare (Fetch a) = places_at I (by_fetch spare (last_at r a) a) (held_at cells a)
touched_places cells r spare (Store a v) = places_at I (by_store r.nodes (first_at r a) a) (held_at cells a)
touched_places cells r spare (Take a) = places_at M (by_take spare (last_at r a) a) (held_at cells a)
touched_places cells r spare (Put a v) = places_at M (by_put (first_at r a) a) (held_at cells a)

-- the elements of the requests that get these replies
abbrev pub elements_in : List (Waiter × Reply) → List ℕ
elements_in replies = map (λ (r : Waiter × Reply). r.0.element) replies

-- the elements whose windows a request may change: its own, and those of the requests that it resumes
abbrev pub elements_told : ℕ → List (Waiter × Reply) → List ℕ
elements_told element replies = element ∷ elements_in replies

-- the cells, the waiter nodes and the elements whose records a command may change
pub record Touched : Type 0 where
  pub cells : List ℕ
  pub nodes : List ℕ
  pub elements : List ℕ

-- these places, and the windows of these elements
abbrev pub touched_in : Places → List ℕ → Touched
touched_in p elements = record { cells = p.cells; nodes = p.nodes; elements = elements }

-- the records that a command may change
abbrev pub touched : MemoryState → Command → Touched
touched m (Asks r) =
    touched_in (touched_places m.contents.cells m.records m.spare r.op)
    (elements_told r.element (act m.contents.cells (asker r) r.op).resumed)
touched m (Confirm element upto) = touched_in nowhere (element ∷ [])

-- none of these numbers is this one
abbrev pub IsOther : List ℕ → ℕ → Type 0
IsOther [] n = Unit {0}
IsOther (m ∷ ms) n = (n ≢ m) × IsOther ms n

-- only the records of these cells, nodes and elements change
pub record ChangesOnly (t : Touched) (old new : Records) : Type 0 where
  pub cells : (a : ℕ) → IsOther t.cells a → slice_get new.cells a ≡ slice_get old.cells a
  pub nodes : (n : ℕ) → IsOther t.nodes n → slice_get new.nodes n ≡ slice_get old.nodes n
  pub windows : (e : ℕ) → IsOther t.elements e → slice_get new.windows e ≡ slice_get old.windows e
