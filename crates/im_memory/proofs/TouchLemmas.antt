-- Which records an operation changes.
use Rattle.std.proofs.Common.{◌≡◌, ℕ, zero, suc, ◌+◌, ◌<◌, ◌≤◌, Bool, true, false, cond, ◌≢◌, List, [], ◌∷◌, map}
use Rattle.std.proofs.Common.{length, get_or, drop, ◌==◌, slice_get, Some, None, Ok, Err, Option, option_map, sym, refl}
use Rattle.std.proofs.Common.{ap, ◌∙◌, subst, arith}
use Rattle.std.proofs.lemmas.Bool.Decides.{nat_tests}
use Rattle.im_types.specs.Types.{Entry, Kind, Op, Reply, Waiter, Block, Waiting as Deferred, Answered, I, M, Alloc}
use Rattle.im_types.specs.Types.{Release, Reset, Fetch, Store, Take, Put, Stored, NoCell, WrongKind, CellState}
use Rattle.im_types.specs.Types.{Empty as IsEmpty, Full as IsFull, Clashed as IsClashed, Held, Window, new_window}
use Rattle.im_types.specs.Types.{held_at, Cell, CellEmpty as Empty, CellWaiting as Waiting, CellFull as Full}
use Rattle.im_types.specs.Types.{CellClashed as Clashed, place, fill, change_each, ServedCell as Served, fetch, store}
use Rattle.im_types.specs.Types.{take_from, put, Acted as ActedCells, only_tells, same_kind, serve_cell, at_cell}
use Rattle.im_types.specs.Types.{block_with_base, with_window, answer_in, answer, answer_each, CellRecord, NodeRecord}
use Rattle.im_types.specs.Types.{tag_first, tag_last}
use Rattle.im_arena.proofs.{Frames.slice_get-set_other, Moves.place_from-same}
use Rattle.im_arena.specs.{Chain.along, Chain.place_from, declared.Ends.Ends}
use Rattle.im_arena.specs.Lists.{ends_at, first_in, IsPopped, IsPushed, last_in, list_at, next_in, Shown}
use Rattle.{im_cell.specs.declared.Slot.Slot, im_istore.proofs.Cells.held_at-cells}
use Rattle.im_cell.specs.Slots.{block_from as slot_with_base, cell_waits, is_waiting_slot, length_at, length_of}
use Rattle.im_cell.specs.Slots.{slot_at, slot_block, with_cell}
use Rattle.im_istore.specs.{Access.access_in, Access.replies_to, Agreement.Agree, Agreement.has_some, Joined.cells_of}
use Rattle.im_istore.specs.{Joined.held_of, Joined.state_of, Records.LeavesLinks}
use Rattle.im_memory.proofs.{CellsLemmas.place-cells, CellsLemmas.with_base-cells, RecordLemmas.cell-at}
use Rattle.im_memory.specs.Changing.{AreAmong, ChangesAt, IsAway, LeavesOthers, places_in}
use Rattle.im_memory.specs.declared.acts.Resumed.{Resumed, TheVariants.Nobody, TheVariants.Readers, TheVariants.Taker}
use Rattle.im_memory.specs.{Shown.cell_record, Shown.cell_records, Shown.records_of, Shown.tag_shown, State.rows_of}
use Rattle.im_memory.specs.Touched.{addresses, by_fetch, by_put, by_store, by_take, cell_alone, ChangesOnly}
use Rattle.im_memory.specs.Touched.{elements_told, first_at, IsOther, last_at, made_places, next_at, nodes_behind}
use Rattle.im_memory.specs.Touched.{nodes_from, nowhere, Places, places_at, places_of, tag_in, touched_in}
use Rattle.im_memory.specs.Touched.{touched_places}

-- the windows have no say in it
pub places-rows : (slots : List (Option Slot)) (arena : Shown) (windows : List Window) (op : Op)
    → touched_places (cells_of slots arena) (records_of slots arena windows) arena.links.spare op
    ≡ places_in slots arena op
places-rows slots arena windows (Alloc kind n) = refl
places-rows slots arena windows (Release a) = refl
places-rows slots arena windows (Reset a) = refl
places-rows slots arena windows (Fetch a) = refl
places-rows slots arena windows (Store a v) = refl
places-rows slots arena windows (Take a) = refl
places-rows slots arena windows (Put a v) = refl

-- a table that is the same, and an arena too
pub same-change : (p : Places) (slots slots2 : List (Option Slot)) (arena arena2 : Shown) → slots2 ≡ slots → arena2
    ≡ arena → ChangesAt p slots arena slots2 arena2
same-change p slots slots2 arena arena2 s a = record {
  cells = λ b o. ap (λ xs. slice_get xs b) s;
  ends = λ b o. ap (λ (x : Shown). slice_get x.links.ends b) a;
  nodes = λ n o. ap (λ (x : Shown). slice_get x.links.records n) a;
}

-- addresses outside a range
pub addresses-other : (base n b : ℕ) → IsOther (addresses base n) b → base ≤ b → b < base + n → ⊥
addresses-other base zero b other lo hi = omega arith
addresses-other base (suc n) b other lo hi = let no = other.0 in addresses-other (suc base) n b other.1 (omega arith)
    (omega arith)

fill-other : {X : Type 0} (xs : List (Option X)) (base n b : ℕ) (x : Option X) → (base ≤ b → b < base + n → ⊥)
    → slice_get (fill xs base n x) b ≡ slice_get xs b
fill-other [] base n b x out = refl
fill-other (y ∷ ys) zero zero b x out = refl
fill-other (y ∷ ys) zero (suc n) zero x out = absurd (out (omega arith) (omega arith))
fill-other (y ∷ ys) zero (suc n) (suc b) x out = fill-other ys zero n b x (λ lo hi. out (omega arith) (omega arith))
fill-other (y ∷ ys) (suc base) n zero x out = refl
fill-other (y ∷ ys) (suc base) n (suc b) x out = fill-other ys base n b x (λ lo hi. out (omega arith) (omega arith))

filled : (slots : List (Option Slot)) (arena : Shown) (base n : ℕ) (slot : Option Slot)
    → ChangesAt (record { cells = addresses base n; nodes = [] }) slots arena (fill slots base n slot) arena
filled slots arena base n slot = record {
  cells = λ b other. fill-other slots base n b slot (addresses-other base n b other);
  ends = λ b o. refl;
  nodes = λ n o. refl;
}

change_each-other : {X : Type 0} (change : Option X → Option X) (xs : List (Option X)) (base n b : ℕ)
    → (base ≤ b → b < base + n → ⊥)
    → slice_get (change_each change xs base n) b ≡ slice_get xs b
change_each-other change [] base n b out = refl
change_each-other change (y ∷ ys) zero zero b out = refl
change_each-other change (y ∷ ys) zero (suc n) zero out = absurd (out (omega arith) (omega arith))
change_each-other change (y ∷ ys) zero (suc n) (suc b) out = change_each-other change ys zero n b
    (λ lo hi. out (omega arith) (omega arith))
change_each-other change (y ∷ ys) (suc base) n zero out = refl
change_each-other change (y ∷ ys) (suc base) n (suc b) out = change_each-other change ys base n b
    (λ lo hi. out (omega arith) (omega arith))

changed_each : (slots : List (Option Slot)) (arena : Shown) (base n : ℕ)
    → ChangesAt (record { cells = addresses base n; nodes = [] }) slots arena
    (change_each (with_cell Empty) slots base n) arena
changed_each slots arena base n = record {
  cells = λ b other. change_each-other (with_cell Empty) slots base n b (addresses-other base n b other);
  ends = λ b o. refl;
  nodes = λ n o. refl;
}

-- the record of a cell that somebody waits for names the ends of its list
named-cell : (cell : Cell) (ends : Option Ends) → cell_waits cell ≡ true
    → (tag_first (tag_shown cell ends) ≡ first_in ends) × (tag_last (tag_shown cell ends) ≡ last_in ends)
named-cell Empty ends e = absurd (cc)
named-cell Waiting None e = (refl, refl)
named-cell Waiting (Some ends) e = (refl, refl)
named-cell (Full v) ends e = absurd (cc)
named-cell (Clashed v) ends e = absurd (cc)

named-slot : (at : Option Slot) (ends : Option Ends) → is_waiting_slot at ≡ true
    → (tag_first (tag_in (cell_record at ends)) ≡ first_in ends)
    × (tag_last (tag_in (cell_record at ends)) ≡ last_in ends)
named-slot None ends e = absurd (cc)
named-slot (Some slot) ends e = named-cell slot.cell ends e

pub named : (slots : List (Option Slot)) (arena : Shown) → Agree slots arena
    → (a : ℕ) (w : Waiter) (ws : List Waiter) → list_at arena.held a ≡ w ∷ ws
    → (first_at (rows_of slots arena) a ≡ first_in (ends_at arena.links a))
    × (last_at (rows_of slots arena) a ≡ last_in (ends_at arena.links a))
named slots arena agree a w ws e =
    let waits : is_waiting_slot (slot_at slots a) ≡ true = agree.each a ∙ ap has_some e in
    let both = named-slot (slot_at slots a) (ends_at arena.links a) waits in
    let at = cell-at slots arena.links.ends a in (
      ap (λ (c : CellRecord). tag_first (tag_in c)) at ∙ both.0,
      ap (λ (c : CellRecord). tag_last (tag_in c)) at
          ∙ both.1,
    )

module _ (slots : List (Option Slot)) (arena : Shown) where
  abbrev cells : List (Option Held)
  cells = cells_of slots arena

  -- a new block
  pub placed-change : (kind : Kind) (n base : ℕ) (slot : Option Slot) → Some base ≡ place n slots
      → ChangesAt (places_in slots arena (Alloc kind n)) slots arena (fill slots base n slot) arena
  placed-change kind n base slot e =
      subst (λ o. ChangesAt (made_places n o) slots arena (fill slots base n slot) arena)
      (e ∙ sym (place-cells slots arena n)) (filled slots arena base n slot)

  pub found-base : (a : ℕ) (block : Block) → Some block ≡ slot_block slots a → block.base ≡ a → Some block
      ≡ block_with_base a (held_at cells a)
  found-base a block e base =
      let t : (block.base == a) ≡ true = grind (arith, nat_tests) in
      sym (with_base-cells slots arena a ∙ ap (slot_with_base a) (sym e) ∙ ap (λ b. cond b (Some block) None) t)

  -- what becomes of the cells of a block alone
  block-change : (by : ℕ → ℕ → List (Option Slot))
      → ((base n : ℕ) → ChangesAt (record { cells = addresses base n; nodes = [] }) slots arena (by base n) arena)
      → (a : ℕ) (block : Block) → Some block ≡ slot_block slots a → block.base ≡ a
      → ChangesAt (places_of (block_with_base a (held_at cells a))) slots arena (by a (length_at slots a)) arena
  block-change by among a block e base =
      subst (λ o. ChangesAt (places_of o) slots arena (by a (length_at slots a)) arena) (found-base a block e base)
      (rw (sym base) (subst (λ n. ChangesAt (places_of (Some block)) slots arena (by block.base n) arena)
      (ap length_of e ∙ ap (λ x. length_at slots x) (sym base)) (among block.base block.length)))

  pub released-change : (a : ℕ) (block : Block) → Some block ≡ slot_block slots a → block.base ≡ a
      → ChangesAt (places_in slots arena (Release a)) slots arena (fill slots a (length_at slots a) None) arena
  released-change = block-change (λ base n. fill slots base n None) (λ base n. filled slots arena base n None)

  pub reset-change : (a : ℕ) (block : Block) → Some block ≡ slot_block slots a → block.base ≡ a
      → ChangesAt (places_in slots arena (Reset a)) slots arena
      (change_each (with_cell Empty) slots a (length_at slots a)) arena
  reset-change = block-change (λ base n. change_each (with_cell Empty) slots base n)
      (λ base n. changed_each slots arena base n)

  -- an access of a cell that may not be made, or of one in this state
  pub data Look (kind : Kind) (a : ℕ) : Type 0 where
    refused : (reply : Reply) → access_in kind (slot_at slots a) ≡ Err reply
        → ((by : CellState → Places) → places_at kind by (held_at cells a) ≡ nowhere)
        → ((serve : CellState → Served) → at_cell kind serve cells a (held_at cells a) ≡ only_tells cells reply)
        → Look kind a
    there : (slot : Slot) → slot_at slots a ≡ Some slot
        → ((by : CellState → Places) → places_at kind by (held_at cells a)
        ≡ by (state_of slot.cell (list_at arena.held a)))
        → ((serve : CellState → Served) → at_cell kind serve cells a (held_at cells a)
        ≡ serve_cell cells a slot.block (serve (state_of slot.cell (list_at arena.held a)))) → Look kind a

  pub look : (kind : Kind) (a : ℕ) → Look kind a
  look kind a = at_slot (slot_at slots a) refl
    where
      at_kind : (slot : Slot) → slot_at slots a ≡ Some slot → (b : Bool) → same_kind kind slot.block.kind ≡ b
          → Look kind a
      at_kind slot e true same =
          let here : held_at cells a ≡ held_of (Some slot) (list_at arena.held a) = held_at-cells slots arena a
          ∙ ap (λ o. held_of o (list_at arena.held a)) e in
          there slot e
          (λ by. ap (places_at kind by) here
          ∙ ap (λ t. cond t (by (state_of slot.cell (list_at arena.held a))) nowhere) same)
          (λ serve. ap (at_cell kind serve cells a) here
          ∙ ap (λ t. cond t (serve_cell cells a slot.block (serve (state_of slot.cell (list_at arena.held a))))
          (only_tells cells WrongKind)) same)
      at_kind slot e false same =
          let here : held_at cells a ≡ held_of (Some slot) (list_at arena.held a) = held_at-cells slots arena a
          ∙ ap (λ o. held_of o (list_at arena.held a)) e in
          refused WrongKind (ap (access_in kind) e ∙ ap (λ t. cond t (Ok slot.cell) (Err WrongKind)) same)
          (λ by. ap (places_at kind by) here
          ∙ ap (λ t. cond t (by (state_of slot.cell (list_at arena.held a))) nowhere) same)
          (λ serve. ap (at_cell kind serve cells a) here
          ∙ ap (λ t. cond t (serve_cell cells a slot.block (serve (state_of slot.cell (list_at arena.held a))))
          (only_tells cells WrongKind)) same)

      at_slot : (o : Option Slot) → slot_at slots a ≡ o → Look kind a
      at_slot None e =
          let here : held_at cells a ≡ None = held_at-cells slots arena a
          ∙ ap (λ o. held_of o (list_at arena.held a)) e in
          refused NoCell (ap (access_in kind) e) (λ by. ap (places_at kind by) here)
          (λ serve. ap (at_cell kind serve cells a) here)
      at_slot (Some slot) e = at_kind slot e (same_kind kind slot.block.kind) refl

-- one cell changes, and the links don't
cell-change : (a : ℕ) (p : Places) (slots slots2 : List (Option Slot)) (arena arena2 : Shown)
    → ((b : ℕ) → b ≢ a → slice_get slots2 b ≡ slice_get slots b) → arena2 ≡ arena
    → p.cells ≡ a ∷ [] → ChangesAt p slots arena slots2 arena2
cell-change a p slots slots2 arena arena2 others same is = record {
  cells = λ b o. others b (subst (λ xs. IsOther xs b) is o).0;
  ends = λ b o. ap (λ (x : Shown). slice_get x.links.ends b) same;
  nodes = λ n o. ap (λ (x : Shown). slice_get x.links.records n) same;
}

by_put-cells : (first a : ℕ) (state : CellState) → (by_put first a state).cells ≡ a ∷ []
by_put-cells first a (IsEmpty []) = refl
by_put-cells first a (IsEmpty (taker ∷ takers)) = refl
by_put-cells first a (IsFull v) = refl
by_put-cells first a (IsClashed v) = refl

by_store-cells : (nodes : List NodeRecord) (first a : ℕ) (state : CellState) → (by_store nodes first a state).cells
    ≡ a ∷ []
by_store-cells nodes first a (IsEmpty readers) = refl
by_store-cells nodes first a (IsFull v) = refl
by_store-cells nodes first a (IsClashed v) = refl

not_deferred : (reply : Reply) → Answered reply ≡ Deferred → ⊥
not_deferred reply e = cc

-- a fetch and a take
module _ (slots slots2 : List (Option Slot)) (arena arena2 : Shown) (agree : Agree slots arena) (a : ℕ)
    (who : Waiter) (entry : Entry)
    (others : (b : ℕ) → b ≢ a → slice_get slots2 b ≡ slice_get slots b) (links : LeavesLinks entry a arena arena2) where
  abbrev was : List (Option Held)
  was = cells_of slots arena

  abbrev last : ℕ
  last = last_at (rows_of slots arena) a

  -- who waits is put behind these
  behind : (waiters : List Waiter) → list_at arena.held a ≡ waiters → entry ≡ Deferred
      → ChangesAt (record { cells = a ∷ []; nodes = nodes_behind arena.links.spare last waiters }) slots arena slots2 arena2
  behind [] e waits =
      let pushed : IsPushed a arena arena2 = subst (λ x. LeavesLinks x a arena arena2) waits links in
      record {
        cells = λ b o. others b o.0;
        ends = λ b o. pushed.ends b o.0;
        nodes = λ n o. pushed.records n o.0 (λ some. absurd (some e));
      }
  behind (w ∷ ws) e waits =
      let pushed : IsPushed a arena arena2 = subst (λ x. LeavesLinks x a arena arena2) waits links in
      record {
        cells = λ b o. others b o.0;
        ends = λ b o. pushed.ends b o.0;
        nodes = λ n o. pushed.records n o.0 (λ some is. o.1.0 (is ∙ sym (named slots arena agree a w ws e).1));
      }

  -- who is told something leaves the links
  linked : (reply : Reply) → entry ≡ Answered reply → arena2 ≡ arena
  linked reply told = subst (λ x. LeavesLinks x a arena arena2) told links

  take_state : (cell : Cell) → entry ≡ (take_from who (state_of cell (list_at arena.held a))).entry
      → ChangesAt (by_take arena.links.spare last a (state_of cell (list_at arena.held a))) slots arena slots2 arena2
  take_state Empty e = behind (list_at arena.held a) refl e
  take_state Waiting e = behind (list_at arena.held a) refl e
  take_state (Full v) e = cell-change a (cell_alone a) slots slots2 arena arena2 others (linked _ e) refl
  take_state (Clashed v) e = cell-change a (cell_alone a) slots slots2 arena arena2 others (linked _ e) refl

  pub take-change : entry ≡ (at_cell M (take_from who) was a (held_at was a)).entry
      → ((reply : Reply) → access_in M (slot_at slots a) ≡ Err reply → slots2 ≡ slots)
      → ChangesAt (places_in slots arena (Take a)) slots arena slots2 arena2
  take-change e same = elim (look slots arena M a) [
    | refused reply refuses nothing tells ↦
        same-change (places_in slots arena (Take a)) slots slots2 arena arena2 (same reply refuses)
        (linked reply (e ∙ ap (λ (x : ActedCells). x.entry) (tells (take_from who))))
    | there slot is by does ↦
        subst (λ p. ChangesAt p slots arena slots2 arena2) (sym (by (by_take arena.links.spare last a)))
        (take_state slot.cell (e ∙ ap (λ (x : ActedCells). x.entry) (does (take_from who))))
  ]

  module _ (same : entry ≢ Deferred → slots2 ≡ slots) where
    told_same : (p : Places) (reply : Reply) → entry ≡ Answered reply → ChangesAt p slots arena slots2 arena2
    told_same p reply e = same-change p slots slots2 arena arena2 (same (λ d. not_deferred reply (sym e ∙ d)))
        (linked reply e)

    fetch_state : (cell : Cell) → entry ≡ (fetch who (state_of cell (list_at arena.held a))).entry
        → ChangesAt (by_fetch arena.links.spare last a (state_of cell (list_at arena.held a))) slots arena slots2 arena2
    fetch_state Empty e = behind (list_at arena.held a) refl e
    fetch_state Waiting e = behind (list_at arena.held a) refl e
    fetch_state (Full v) e = told_same nowhere _ e
    fetch_state (Clashed v) e = told_same nowhere _ e

    pub fetch-change : entry ≡ (at_cell I (fetch who) was a (held_at was a)).entry
        → ChangesAt (places_in slots arena (Fetch a)) slots arena slots2 arena2
    fetch-change e = elim (look slots arena I a) [
      | refused reply refuses nothing tells ↦
          told_same (places_in slots arena (Fetch a)) reply (e ∙ ap (λ (x : ActedCells). x.entry) (tells (fetch who)))
      | there slot is by does ↦
          subst (λ p. ChangesAt p slots arena slots2 arena2) (sym (by (by_fetch arena.links.spare last a)))
          (fetch_state slot.cell (e ∙ ap (λ (x : ActedCells). x.entry) (does (fetch who))))
    ]

-- a store
module _ (slots slots2 : List (Option Slot)) (arena : Shown) (a v : ℕ)
    (others : (b : ℕ) → b ≢ a → slice_get slots2 b ≡ slice_get slots b)
    (same : (reply : Reply) → access_in I (slot_at slots a) ≡ Err reply → slots2 ≡ slots) where
  pub store-change : ChangesAt (places_in slots arena (Store a v)) slots arena slots2 arena
  store-change = elim (look slots arena I a) [
    | refused reply refuses nothing tells ↦ same-change (places_in slots arena (Store a v)) slots slots2 arena arena
        (same reply refuses) refl
    | there slot is by does ↦
        let first = first_at (rows_of slots arena) a in
        cell-change a (places_in slots arena (Store a v)) slots slots2 arena arena others refl
        (ap (λ (p : Places). p.cells) (by (by_store arena.links.records first a))
        ∙ by_store-cells arena.links.records first a (state_of slot.cell (list_at arena.held a)))
  ]

-- the nodes on a list are those at its places
along-node : (f : ℕ → ℕ) (at count n i : ℕ) → IsOther (along (λ m. m) f at count) n → i < count → n ≢ place_from f at i
along-node f at zero n i other lt = absurd (omega arith)
along-node f at (suc count) n zero other lt = other.0
along-node f at (suc count) n (suc i) other lt = along-node f (f at) count n i other.1 (omega arith)

not_stored : (kind : Kind) (at : Option Slot) → access_in kind at ≡ Err Stored → ⊥
not_stored kind None e = cc
not_stored kind (Some slot) e = by_kind (same_kind kind slot.block.kind) e
  where
    by_kind : (b : Bool) → cond b (Ok slot.cell) (Err WrongKind) ≡ Err Stored → ⊥
    by_kind true e = cc
    by_kind false e = cc

module _ (slots : List (Option Slot)) (arena : Shown) (agree : Agree slots arena) (a v : ℕ)
    (e : Answered Stored ≡
    (at_cell I (store v) (cells_of slots arena) a (held_at (cells_of slots arena) a)).entry) where
  abbrev first : ℕ
  first = first_at (rows_of slots arena) a

  -- a node that is none of those of the list is away from it
  away_from : (waiters : List Waiter) → list_at arena.held a ≡ waiters → (n : ℕ)
      → IsOther (nodes_from arena.links.records first (length waiters)) n → IsAway arena a n
  away_from [] is n other i lt = let none = ap length is in absurd (omega arith)
  away_from (w ∷ ws) is n other i lt =
      let begins = (named slots arena agree a w ws is).0 in
      λ here. along-node (next_at arena.links.records) first (length (w ∷ ws)) n i other
      (let all = ap length is in omega arith)
      (here ∙ ap (λ at. place_from (next_in arena.links) at i) (sym begins)
      ∙ place_from-same (next_at arena.links.records) (next_in arena.links) first i (λ j below. refl))

  among_state : (cell : Cell) → Answered Stored ≡ (store v (state_of cell (list_at arena.held a))).entry
      → (n : ℕ) → IsOther (by_store arena.links.records first a (state_of cell (list_at arena.held a))).nodes n
      → IsAway arena a n
  among_state Empty stored n other = away_from (list_at arena.held a) refl n other
  among_state Waiting stored n other = away_from (list_at arena.held a) refl n other
  among_state (Full w) stored n other = absurd (cc)
  among_state (Clashed w) stored n other = absurd (cc)

  -- the readers of a store are among what it touches
  pub store-among : AreAmong (places_in slots arena (Store a v)) (Readers a v) arena
  store-among = elim (look slots arena I a) [
    | refused reply refuses nothing tells ↦
        let is : Answered Stored ≡ Answered reply = e ∙ ap (λ (x : ActedCells). x.entry) (tells (store v)) in
        let same : reply ≡ Stored = cc in
        absurd (not_stored I (slot_at slots a) (refuses ∙ ap (λ x. Err x) same))
    | there slot is by does ↦
        subst (λ p. AreAmong p (Readers a v) arena) (sym (by (by_store arena.links.records first a))) (
          λ b o. (subst (λ xs. IsOther xs b)
              (by_store-cells arena.links.records first a (state_of slot.cell (list_at arena.held a))) o).0,
          among_state slot.cell (e ∙ ap (λ (x : ActedCells). x.entry) (does (store v))),
        )
  ]

-- a put
module _ (slots slots2 : List (Option Slot)) (arena arena2 : Shown) (agree : Agree slots arena) (a v : ℕ)
    (others : (b : ℕ) → b ≢ a → slice_get slots2 b ≡ slice_get slots b)
    (same : (reply : Reply) → access_in M (slot_at slots a) ≡ Err reply → slots2 ≡ slots) where
  abbrev begins : ℕ
  begins = first_at (rows_of slots arena) a

  -- nobody is served
  pub put-change : arena2 ≡ arena → ChangesAt (places_in slots arena (Put a v)) slots arena slots2 arena2
  put-change still = elim (look slots arena M a) [
    | refused reply refuses nothing tells ↦ same-change (places_in slots arena (Put a v)) slots slots2 arena arena2
        (same reply refuses) still
    | there slot is by does ↦
        cell-change a (places_in slots arena (Put a v)) slots slots2 arena arena2 others still
        (ap (λ (p : Places). p.cells) (by (by_put begins a))
        ∙ by_put-cells begins a (state_of slot.cell (list_at arena.held a)))
  ]

  -- the first taker is served
  module _ (taker : Waiter)
      (told : (at_cell M (put v) (cells_of slots arena) a (held_at (cells_of slots arena) a)).resumed
      ≡ replies_to (taker ∷ []) v) (popped : IsPopped a arena arena2) where
    at_list : (waiters : List Waiter) → list_at arena.held a ≡ waiters → (put v (IsEmpty waiters)).resumed
        ≡ replies_to (taker ∷ []) v
        → ChangesAt (by_put begins a (IsEmpty waiters)) slots arena slots2 arena2
    at_list [] is served = absurd (cc)
    at_list (w ∷ ws) is served = record {
      cells = λ b o. others b o.0;
      ends = λ b o. popped.ends b o.0;
      nodes = λ n o. popped.records n (λ here. o.0 (here ∙ sym (named slots arena agree a w ws is).0));
    }

    served_state : (cell : Cell) → (put v (state_of cell (list_at arena.held a))).resumed ≡ replies_to (taker ∷ []) v
        → ChangesAt (by_put begins a (state_of cell (list_at arena.held a))) slots arena slots2 arena2
    served_state Empty served = at_list (list_at arena.held a) refl served
    served_state Waiting served = at_list (list_at arena.held a) refl served
    served_state (Full w) served = absurd (cc)
    served_state (Clashed w) served = absurd (cc)

    pub put-served : ChangesAt (places_in slots arena (Put a v)) slots arena slots2 arena2
    put-served = elim (look slots arena M a) [
      | refused reply refuses nothing tells ↦
          let none : replies_to (taker ∷ []) v ≡ [] = sym told ∙ ap (λ (x : ActedCells). x.resumed) (tells (put v)) in
          absurd (cc)
      | there slot is by does ↦
          subst (λ p. ChangesAt p slots arena slots2 arena2) (sym (by (by_put begins a)))
          (served_state slot.cell (sym (ap (λ (x : ActedCells). x.resumed) (does (put v))) ∙ told))
    ]

-- the first reader is gone
module _ (a : ℕ) (old new : Shown) (popped : IsPopped a old new) (some : 0 < length (list_at old.held a))
    (rest : list_at new.held a ≡ drop 1 (list_at old.held a)) where
  length-rest : (ws : List Waiter) → 0 < length ws → length (drop 1 ws) + 1 ≡ length ws
  length-rest [] lt = absurd (omega arith)
  length-rest (w ∷ ws) lt = omega arith

  pub record-drained : (n : ℕ) → IsAway old a n → slice_get new.links.records n ≡ slice_get old.links.records n
  record-drained n away = popped.records n (away 0 some)

  pub away-drained : (n : ℕ) → IsAway old a n → IsAway new a n
  away-drained n away i lt =
      let shorter = length-rest (list_at old.held a) some in
      let before : i + 1 < length (list_at old.held a) = omega (arith, ap length rest) in
      λ e. away (i + 1) before (e ∙ popped.rest i before)

-- what an operation changes, and then the readers that are resumed
pub resumed-change : (p : Places) (slots slots2 : List (Option Slot)) (arena arena2 arena3 : Shown) (resumed : Resumed)
    → ChangesAt p slots arena slots2 arena2 → AreAmong p resumed arena2 → LeavesOthers resumed arena2 arena3
    → ChangesAt p slots arena slots2 arena3
resumed-change p slots slots2 arena arena2 arena3 Nobody changes among same = subst
    (λ (x : Shown). ChangesAt p slots arena slots2 x) (sym same) changes
resumed-change p slots slots2 arena arena2 arena3 (Taker who v) changes among same = subst
    (λ (x : Shown). ChangesAt p slots arena slots2 x) (sym same) changes
resumed-change p slots slots2 arena arena2 arena3 (Readers a v) changes among drained = record {
  cells = changes.cells;
  ends = λ b o. drained.ends b (among.0 b o) ∙ changes.ends b o;
  nodes = λ n o. drained.nodes n (among.1 n o) ∙ changes.nodes n o;
}

-- the record of a cell is that of its slot and its ends
abbrev ends_in : Option (Option Ends) → Option Ends
ends_in None = None
ends_in (Some e) = e

slice_get-cell_records : (slots : List (Option Slot)) (ends : List (Option Ends)) (b : ℕ)
    → slice_get (cell_records slots ends) b
    ≡ option_map (λ slot. cell_record slot (ends_in (slice_get ends b))) (slice_get slots b)
slice_get-cell_records [] ends b = refl
slice_get-cell_records (slot ∷ slots) [] zero = refl
slice_get-cell_records (slot ∷ slots) [] (suc b) = slice_get-cell_records slots [] b
slice_get-cell_records (slot ∷ slots) (e ∷ ends) zero = refl
slice_get-cell_records (slot ∷ slots) (e ∷ ends) (suc b) = slice_get-cell_records slots ends b

cell-record_same : (slots slots2 : List (Option Slot)) (ends ends2 : List (Option Ends)) (b : ℕ) → slice_get slots2 b
    ≡ slice_get slots b → slice_get ends2 b ≡ slice_get ends b
    → slice_get (cell_records slots2 ends2) b ≡ slice_get (cell_records slots ends) b
cell-record_same slots slots2 ends ends2 b ss es =
    slice_get-cell_records slots2 ends2 b
    ∙ ap (λ o. option_map (λ slot. cell_record slot (ends_in o)) (slice_get slots2 b)) es
    ∙ ap (option_map (λ slot. cell_record slot (ends_in (slice_get ends b)))) ss
    ∙ sym (slice_get-cell_records slots ends b)

-- windows of other elements stay
pub window-other : (windows : List Window) (element : ℕ) (change : Window → Window) (e : ℕ) → e ≢ element
    → slice_get (with_window windows element change) e ≡ slice_get windows e
window-other windows element change e other = slice_get-set_other windows element e
    (change (get_or windows element new_window)) other

answered-other : (replies : List (Waiter × Reply)) (windows : List Window) (e : ℕ)
    → IsOther (map (λ (r : Waiter × Reply). r.0.element) replies) e → slice_get (answer_each windows replies) e
    ≡ slice_get windows e
answered-other [] windows e other = refl
answered-other (r ∷ replies) windows e other =
    answered-other replies (answer windows r.0 r.1) e other.1
    ∙ window-other windows r.0.element (answer_in r.0.number r.1) e other.0

-- the records after a new request
pub served-change : (op : Op) (slots slots2 : List (Option Slot)) (arena arena2 : Shown)
    (windows windows1 windows2 : List Window) (element : ℕ) (change : Window → Window) (replies : List (Waiter × Reply))
    → ChangesAt (places_in slots arena op) slots arena slots2 arena2 → windows1 ≡ with_window windows element change
    → windows2 ≡ answer_each windows1 replies
    → ChangesOnly (touched_in
    (touched_places (cells_of slots arena) (records_of slots arena windows) arena.links.spare op)
    (elements_told element replies)) (records_of slots arena windows) (records_of slots2 arena2 windows2)
served-change op slots slots2 arena arena2 windows windows1 windows2 element change replies changes noted answered =
    subst (λ p. ChangesOnly (touched_in p (elements_told element replies)) (records_of slots arena windows)
    (records_of slots2 arena2 windows2)) (sym (places-rows slots arena windows op))
    (record {
      cells = λ b o. cell-record_same slots slots2 arena.links.ends arena2.links.ends b (changes.cells b o)
          (changes.ends b o);
      nodes = λ n o. changes.nodes n o;
      windows = λ e o. ap (λ ws. slice_get ws e) answered ∙ answered-other replies windows1 e o.1
          ∙ ap (λ ws. slice_get ws e) noted ∙ window-other windows element change e o.0;
    })
