-- A memory that is put together from the records of its cells and from lists of those who wait.
use Rattle.std.proofs.Common.{◌≡◌, ℕ, zero, suc, ◌+◌, ◌*◌, ◌<◌, ◌≤◌, true, List, [], ◌∷◌, ◌++◌, map, length, get_or}
use Rattle.std.proofs.Common.{take, Some, sum_by, Option, sym, refl, ap, ◌∙◌, subst, arith, length-take-le}
use Rattle.std.proofs.Common.{get_or-set_same, set-set}
use Rattle.std.proofs.lemmas.List.{Sums.sum_by-set, take_more}
use Rattle.im_types.specs.Types.{Waiter, WINDOW, CellState, Held, Window, Contents, IsMemory, PresenceTag, CellRecord}
use Rattle.im_types.specs.Types.{NodeRecord, TagEmpty, TagWaiting, TagFull, TagClashed, FreeCell, BlockCell, ChainHolds}
use Rattle.im_types.specs.Types.{HasChain, HaveChains, state_shown, cell_shown, cells_shown}
use Rattle.im_arena.specs.Lists.{free, list_at, Lists, Shown, with_list}
use Rattle.im_cell.specs.{declared.Slot.Slot, Slots.cell_waits, Slots.HoldsBlocks as SlotsHaveBlocks}
use Rattle.im_cell.specs.{Slots.is_waiting_slot, Slots.shown_cell, Slots.shown_slot, Slots.slot_at}
use Rattle.im_istore.{proofs.Cells.list_of, specs.Agreement.Agree, specs.Agreement.has_some}
use Rattle.im_istore.specs.Joined.{cells_of, held_of, joined_cells, state_of}
use Rattle.im_memory.proofs.CellsLemmas.{block_at-cells, length-cells, no_list}
use Rattle.im_memory.{proofs.RoomLemmas.all-fit, specs.MakesMemory.contents_of, specs.MakesMemory.MakesMemory}
use Rattle.im_memory.specs.Restoring.{AreComplete, contents_shown, HaveRoom}

-- somebody stands in a chain
chain-some : (nodes : List NodeRecord) (chain : List ℕ) (waiters : List Waiter) → 1 ≤ length chain
    → ChainHolds nodes chain waiters → true ≡ has_some waiters
chain-some nodes [] waiters some holds = absurd (omega arith)
chain-some nodes (node ∷ chain) [] some holds = absurd holds
chain-some nodes (node ∷ chain) (w ∷ waiters) some holds = refl

-- a cell's presence tag says whether somebody waits
cell-agrees : (nodes : List NodeRecord) (cell : CellRecord) (chain : List ℕ) (waiters : List Waiter)
    → HasChain nodes cell chain waiters → is_waiting_slot (shown_slot cell) ≡ has_some waiters
cell-agrees nodes (FreeCell hole next) chain waiters has = sym (ap has_some has.1)
cell-agrees nodes (BlockCell block TagEmpty) chain waiters has = sym (ap has_some has.1)
cell-agrees nodes (BlockCell block
    (TagWaiting first last)) chain waiters has = chain-some nodes chain waiters has.some has.holds
cell-agrees nodes (BlockCell block (TagFull v)) chain waiters has = sym (ap has_some has.1)
cell-agrees nodes (BlockCell block (TagClashed v)) chain waiters has = sym (ap has_some has.1)

cells-agree : (nodes : List NodeRecord) (cells : List CellRecord) (chains : List (List ℕ))
    (lists : List (List Waiter)) → HaveChains nodes cells chains lists
    → (a : ℕ) → is_waiting_slot (slot_at (map shown_slot cells) a) ≡ has_some (list_of lists a)
cells-agree nodes [] [] [] have a = refl
cells-agree nodes [] [] (waiters ∷ lists) have a = absurd have
cells-agree nodes [] (chain ∷ chains) lists have a = absurd have
cells-agree nodes (cell ∷ cells) [] lists have a = absurd have
cells-agree nodes (cell ∷ cells) (chain ∷ chains) [] have a = absurd have
cells-agree nodes (cell ∷ cells) (chain ∷ chains)
    (waiters ∷ lists) have zero = cell-agrees nodes cell chain waiters have.0
cells-agree nodes (cell ∷ cells) (chain ∷ chains) (waiters ∷ lists) have
    (suc a) = cells-agree nodes cells chains lists have.1 a

lists-count : (nodes : List NodeRecord) (cells : List CellRecord) (chains : List (List ℕ))
    (lists : List (List Waiter)) → HaveChains nodes cells chains lists → length lists ≡ length cells
lists-count nodes [] [] [] have = refl
lists-count nodes [] [] (waiters ∷ lists) have = absurd have
lists-count nodes [] (chain ∷ chains) lists have = absurd have
lists-count nodes (cell ∷ cells) [] lists have = absurd have
lists-count nodes (cell ∷ cells) (chain ∷ chains) [] have = absurd have
lists-count nodes (cell ∷ cells) (chain ∷ chains) (waiters ∷ lists) have = ap suc
    (lists-count nodes cells chains lists have.1)

-- what is restored of a cell is what its record shows
state-restored : (tag : PresenceTag) (waiters : List Waiter) → cell_waits (shown_cell tag) ≡ has_some waiters
    → state_of (shown_cell tag) waiters ≡ state_shown tag waiters
state-restored TagEmpty waiters agree = let none = no_list waiters (sym agree) in ap
    (state_of (shown_cell TagEmpty)) none
state-restored (TagWaiting first last) waiters agree = refl
state-restored (TagFull v) waiters agree = refl
state-restored (TagClashed v) waiters agree = refl

cell-restored : (cell : CellRecord) (waiters : List Waiter) → is_waiting_slot (shown_slot cell) ≡ has_some waiters
    → held_of (shown_slot cell) waiters ≡ cell_shown cell waiters
cell-restored (FreeCell hole next) waiters agree = refl
cell-restored (BlockCell block tag) waiters agree = ap
    (λ (state : CellState). Some (record { block = block; state = state })) (state-restored tag waiters agree)

cells-restored : (cells : List CellRecord) (lists : List (List Waiter))
    → ((a : ℕ) → is_waiting_slot (slot_at (map shown_slot cells) a) ≡ has_some (list_of lists a))
    → joined_cells (map shown_slot cells) lists ≡ cells_shown cells lists
cells-restored [] lists agree = refl
cells-restored (cell ∷ cells) [] agree =
    ap (λ held. held ∷ joined_cells (map shown_slot cells) []) (cell-restored cell [] (agree 0))
    ∙ ap (λ held. cell_shown cell [] ∷ held) (cells-restored cells [] (λ a. agree (suc a)))
cells-restored (cell ∷ cells) (waiters ∷ lists) agree =
    ap (λ held. held ∷ joined_cells (map shown_slot cells) lists) (cell-restored cell waiters (agree 0))
    ∙ ap (λ held. cell_shown cell waiters ∷ held) (cells-restored cells lists (λ a. agree (suc a)))

module _ (cells : List CellRecord) (arena : Shown) (windows : List Window)
    (complete : AreComplete (record { cells = cells; lists = arena.held.lists; windows = windows })) where
  abbrev slots : List (Option Slot)
  slots = map shown_slot cells

  parts-agree : Agree slots arena
  parts-agree = record {
    lists = lists-count complete.nodes cells complete.chained.chains arena.held.lists complete.chained.have
        ∙ sym (length-map cells);
    each = cells-agree complete.nodes cells complete.chained.chains arena.held.lists complete.chained.have;
  }
    where
      length-map : (cells : List CellRecord) → length (map shown_slot cells) ≡ length cells
      length-map [] = refl
      length-map (cell ∷ cells) = ap suc (length-map cells)

  cells-are : cells_of slots arena ≡ cells_shown cells arena.held.lists
  cells-are = cells-restored cells arena.held.lists parts-agree.each

  pub restored-contents : contents_of slots arena windows
      ≡ contents_shown (record { cells = cells; lists = arena.held.lists; windows = windows })
  restored-contents = ap (λ (held : List (Option Held)). with_windows held) cells-are
    where
      with_windows : List (Option Held) → Contents
      with_windows held = record { cells = held; windows = windows }

  restored-memory : IsMemory (length cells) (length windows) (contents_of slots arena windows)
  restored-memory = subst (IsMemory (length cells) (length windows)) (sym restored-contents) complete.memory

  slots-count : length slots ≡ length cells
  slots-count = sym (length-cells slots arena) ∙ restored-memory.cell_count

  -- the table that is restored has whole blocks
  pub restored-blocks : SlotsHaveBlocks slots
  restored-blocks = record {
    within = λ a block e.
        let within = restored-memory.blocks.within a block (block_at-cells slots arena a ∙ e) in
        (within.0, within.1, omega (arith, within.2, length-cells slots arena));
    whole = λ a block e b from to. sym (block_at-cells slots arena b)
        ∙ restored-memory.blocks.whole a block (block_at-cells slots arena a ∙ e) b from to;
  }

  pub restored-makes : (count : ℕ) → HaveRoom cells count arena windows → MakesMemory slots arena windows
  restored-makes count room = record {
    agree = parts-agree;
    memory = subst (λ n. IsMemory n (length windows) (contents_of slots arena windows))
        (sym slots-count) restored-memory;
    some_cell = omega (arith, slots-count, room.some_cell);
    few_cells = omega (arith, slots-count, room.few_cells);
    few_elements = room.few_elements;
    nodes = room.nodes;
  }

-- there is a node for each who waits
pub lists-fit : (cells : List CellRecord) (lists : List (List Waiter)) (windows : List Window)
    → AreComplete (record { cells = cells; lists = lists; windows = windows })
    → sum_by length lists ≤ WINDOW * length windows
lists-fit cells lists windows complete =
    let arena : Shown = record { held = record { nodes = 0; lists = lists }; links = record { records = []; ends = []; spare = 0 } } in
    let memory = restored-memory cells arena windows complete in
    all-fit (map shown_slot cells) arena windows (parts-agree cells arena windows complete) memory.agrees memory.windows

-- waiters are put on an empty list one by one
module _ (held : Lists) (list : ℕ) (inside : list < length held.lists) (empty : list_at held list ≡ []) where
  abbrev holding : List Waiter → Lists
  holding waiters = with_list held list waiters

  listed : (waiters : List Waiter) → list_at (holding waiters) list ≡ waiters
  listed waiters = get_or-set_same held.lists list waiters [] inside

  pub room-left : (now : Lists) (waiters : List Waiter) (i : ℕ) → now ≡ holding (take i waiters) → i < length waiters
      → sum_by length held.lists + length waiters ≤ held.nodes → 0 < free now
  room-left now waiters i is more room =
      let sums : sum_by length (holding (take i waiters)).lists + length (list_at held list)
      ≡ sum_by length held.lists + length (take i waiters) = sum_by-set length held.lists list
      (take i waiters) [] inside in
      let taken : length (take i waiters) ≡ i = length-take-le i waiters (omega arith) in
      let some : 0 < free (holding (take i waiters)) = omega (arith, sums, taken, ap length empty) in
      subst (λ (h : Lists). 0 < free h) (sym is) some

  -- a request with another number
  abbrev numbered : Waiter → ℕ → Waiter
  numbered waiter number = record { element = waiter.element; number = number }

  pub one-more : (now new : Lists) (waiters : List Waiter) (i : ℕ) (d : Waiter) (number : ℕ) → now
      ≡ holding (take i waiters) → i < length waiters → number ≡ (get_or waiters i d).number
      → new ≡ with_list now list (list_at now list ++ numbered (get_or waiters i d) number ∷ []) → new
      ≡ holding (take (i + 1) waiters)
  one-more now new waiters i d number is more same pushed =
      pushed
      ∙ ap (λ n. with_list now list (list_at now list ++ numbered (get_or waiters i d) n ∷ [])) same
      ∙ ap (λ (h : Lists). with_list h list (list_at h list ++ get_or waiters i d ∷ [])) is
      ∙ ap (λ ws. with_list (holding (take i waiters)) list (ws ++ get_or waiters i d ∷ [])) (listed (take i waiters))
      ∙ ap (λ ws. with_list (holding (take i waiters)) list ws) (sym (take_more waiters i d more))
      ∙ ap with_lists (set-set held.lists list (take i waiters) (take (i + 1) waiters))
    where
      with_lists : List (List Waiter) → Lists
      with_lists lists = record { nodes = held.nodes; lists = lists }
