-- The pages that a set must have so that no record on a page outside it changes. (Own.)
use Rattle.std.specs.Prelude.{◌≡◌, ℕ, zero, suc, ◌+◌, ◌-◌, ◌*◌, Bool, true, false, List, [], ◌∷◌, length, Some, None}
use Rattle.std.specs.Prelude.{Option}
use Rattle.im_types.specs.Types.{Kind, Op, Reply, Waiter, Block, Answered, I, M, Alloc, Release, Reset, Fetch, Store}
use Rattle.im_types.specs.Types.{Take, Put, NoCell, Command, Asks, Confirm, CellState, Empty, Full, Clashed, Held}
use Rattle.im_types.specs.Types.{Contents, held_at, place, block_with_base, act, asker, Records}
use Rattle.im_pages.specs.PageSets.{has, IsWithin, with_page, with_pages}
use Rattle.im_pages.specs.Places.{AgreeOnPage, page_of_cell, page_of_node, page_of_session}
use Rattle.im_memory.specs.State.{MemoryState}
use Rattle.im_memory.specs.Touched.{at_kind, ChangesOnly, elements_in, Places, Touched, touched}

-- the page of each of these is in the set
abbrev pub AreIn : (ℕ → ℕ) → List Bool → List ℕ → Type 0
AreIn page set [] = Unit {0}
AreIn page set (x ∷ xs) = (has set (page x) ≡ true) × AreIn page set xs

-- the page of the first waiter's session is in the set, if there is a waiter; `page` gives that of an element
abbrev pub HasFirst : (ℕ → ℕ) → List Bool → List Waiter → Type 0
HasFirst page set waiters =
    (first : Waiter) (others : List Waiter) → waiters ≡ first ∷ others → has set (page first.element) ≡ true

-- the page of the session of each request that gets one of these replies is in the set
abbrev pub HasTold : ℕ → ℕ → List Bool → List (Waiter × Reply) → Type 0
HasTold cells elements set told = AreIn (page_of_session cells elements) set (elements_in told)

-- the new set has each page of the old one, and the same length
pub record Grows (old new : List Bool) : Type 0 where
  pub kept : IsWithin old new
  pub length : length new ≡ length old

-- the pages of these cells and nodes are in the set, in an area with this number of cells
pub record HasPlaces (cells : ℕ) (p : Places) (set : List Bool) : Type 0 where
  pub of_cells : AreIn page_of_cell set p.cells
  pub of_nodes : AreIn (page_of_node cells) set p.nodes

-- the page of each touched record is in the set, in an area with these numbers of cells and elements
pub record HasPages (cells elements : ℕ) (t : Touched) (set : List Bool) : Type 0 where
  pub of_cells : AreIn page_of_cell set t.cells
  pub of_nodes : AreIn (page_of_node cells) set t.nodes
  pub of_elements : AreIn (page_of_session cells elements) set t.elements

-- the page of each record that a command touches is in the set
abbrev pub Covers : MemoryState → Command → List Bool → Type 0
Covers m command set = HasPages (length m.contents.cells) (length m.contents.windows) (touched m command) set

-- for all records that the command may leave, those on a page outside the set are as before
abbrev pub KeepsOutside : MemoryState → Command → List Bool → Type 0
KeepsOutside m command set =
    (after : Records) → ChangesOnly (touched m command) m.records after → (page : ℕ) → has set page ≡ false
    → AgreeOnPage (length m.contents.cells) (length m.contents.windows) m.records after page

-- the most pages at a cell of the operation's kind, besides the page of the asker's session; else 0
abbrev pub most_at : Kind → (CellState → ℕ) → Option Held → ℕ
most_at kind most held = at_kind 0 kind most held

-- the most pages of a store: the page of the cell, and for each reader the pages of its node and its session
abbrev pub most_by_store : CellState → ℕ
most_by_store (Empty readers) = 1 + 2 * length readers
most_by_store (Full v) = 1
most_by_store (Clashed v) = 1

-- the number of pages that show n cells from this address on
abbrev pub block_pages : ℕ → ℕ → ℕ
block_pages base zero = 0
block_pages base (suc n) = page_of_cell (base + n) + 1 - page_of_cell base

-- the most pages of a new block: the pages of its n cells, if there is a base for it
abbrev pub most_by_new : ℕ → Option ℕ → ℕ
most_by_new n None = 0
most_by_new n (Some base) = block_pages base n

-- the most pages of a block that is released or reset: the pages of its cells, if there is one
abbrev pub most_by_block : Option Block → ℕ
most_by_block None = 0
most_by_block (Some block) = block_pages block.base block.length

-- the most pages of an operation, besides the page of the asker's session
abbrev pub most_by : List (Option Held) → Op → ℕ
most_by cells (Alloc kind n) = most_by_new n (place n cells)
most_by cells (Release a) = most_by_block (block_with_base a (held_at cells a))
most_by cells (Reset a) = most_by_block (block_with_base a (held_at cells a))
most_by cells (Fetch a) = most_at I (λ state. 3) (held_at cells a)
most_by cells (Store a v) = most_at I most_by_store (held_at cells a)
most_by cells (Take a) = most_at M (λ state. 3) (held_at cells a)
most_by cells (Put a v) = most_at M (λ state. 3) (held_at cells a)

-- the most pages on which a command may change a record
abbrev pub most_pages : Contents → Command → ℕ
most_pages m (Asks r) = 1 + most_by m.cells r.op
most_pages m (Confirm element upto) = 1

-- the set with the pages of n cells added, from this address on
abbrev pub with_cells : List Bool → ℕ → ℕ → List Bool
with_cells set base zero = set
with_cells set base (suc n) = with_pages set (page_of_cell base) (block_pages base (suc n))

-- the set with the pages of a new block of n cells added, if there is a base for it
abbrev pub with_new : List Bool → ℕ → Option ℕ → List Bool
with_new set n None = set
with_new set n (Some base) = with_cells set base n

-- the set with the pages of a block's cells added, if there is one
abbrev pub with_block : List Bool → Option Block → List Bool
with_block set None = set
with_block set (Some block) = with_cells set block.base block.length

-- an operation on a block adds the pages of the block's cells to the set, and no other page
abbrev pub HasBlockMore : List (Option Held) → Op → List Bool → List Bool → Type 0
HasBlockMore cells (Alloc kind n) old new = new ≡ with_new old n (place n cells)
HasBlockMore cells (Release a) old new = new ≡ with_block old (block_with_base a (held_at cells a))
HasBlockMore cells (Reset a) old new = new ≡ with_block old (block_with_base a (held_at cells a))
HasBlockMore cells (Fetch a) old new = Unit {0}
HasBlockMore cells (Store a v) old new = Unit {0}
HasBlockMore cells (Take a) old new = Unit {0}
HasBlockMore cells (Put a v) old new = Unit {0}

-- the command adds the page of the asker's session and, for an allocation, a release or a reset, the pages of the
-- block's cells; it adds no other page
abbrev pub IsOfBlock : Contents → Command → List Bool → List Bool → Type 0
IsOfBlock m (Asks r) old new =
    HasBlockMore m.cells r.op (with_page old (page_of_session (length m.cells) (length m.windows) r.element)) new
IsOfBlock m (Confirm element upto) old new = Unit {0}

-- a request that is answered with NoCell, and a confirmation, add only the page of the element's session
abbrev pub IsAlone : Contents → Command → List Bool → List Bool → Type 0
IsAlone m (Asks r) old new =
    (act m.cells (asker r) r.op).entry ≡ Answered NoCell
    → new ≡ with_page old (page_of_session (length m.cells) (length m.windows) r.element)
IsAlone m (Confirm element upto) old new =
    new ≡ with_page old (page_of_session (length m.cells) (length m.windows) element)
