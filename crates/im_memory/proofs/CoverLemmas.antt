-- Which pages show what a command touches.
use Rattle.std.proofs.Common.{◌≡◌, ℕ, zero, suc, ◌+◌, ◌-◌, ◌<◌, ◌≤◌, Bool, true, false, cond, ◌≢◌, List, [], ◌∷◌, map}
use Rattle.std.proofs.Common.{length, ◌==◌, Some, None, Ok, Err, Option, sym, refl, ap, ◌∙◌, subst, true≢false, arith}
use Rattle.std.proofs.lemmas.Bool.Decides.{nat_tests}
use Rattle.im_types.specs.Types.{Kind, Reply, Waiter, Block, Answered, Alloc, NoCell, WrongKind, Command, CellState}
use Rattle.im_types.specs.Types.{Empty as IsEmpty, Full as IsFull, Clashed as IsClashed, Held, held_at, Cell}
use Rattle.im_types.specs.Types.{CellEmpty as Empty, CellWaiting as Waiting, CellFull as Full, CellClashed as Clashed}
use Rattle.im_types.specs.Types.{place, ServedCell as Served, fetch, store, take_from, put, Acted as ActedCells}
use Rattle.im_types.specs.Types.{only_tells, same_kind, serve_cell, at_cell, block_with_base, NodeRecord}
use Rattle.{im_pages.specs.PageSets.has, im_pages.specs.PageSets.with_pages, im_cell.specs.declared.Slot.Slot}
use Rattle.im_pages.specs.Places.{page_of_cell, page_of_node, page_of_session}
use Rattle.im_arena.specs.Lists.{ends_at, first_in, last_in, list_at, Shown}
use Rattle.im_cell.specs.Slots.{block_from as slot_with_base, cell_waits, is_waiting_slot, slot_at, slot_block}
use Rattle.im_istore.{proofs.Cells.held_at-cells, specs.Joined.cells_of, specs.Joined.held_of, specs.Joined.state_of}
use Rattle.im_istore.specs.{Access.access_in, Access.replies_to, Agreement.Agree, Agreement.has_some}
use Rattle.im_memory.proofs.CellsLemmas.{no_list, place-cells, with_base-cells}
use Rattle.im_memory.proofs.TouchLemmas.{found-base, look, named, refused, there}
use Rattle.im_memory.specs.{Changing.places_in, State.MemoryState, State.rows_of}
use Rattle.im_memory.specs.Covering.{AreIn, block_pages, Covers, HasPlaces, KeepsOutside, most_at, with_cells}
use Rattle.im_memory.specs.Touched.{addresses, at_kind, by_fetch, by_put, by_store, by_take, cell_alone, elements_in}
use Rattle.im_memory.specs.Touched.{first_at, IsOther, last_at, made_places, next_at, nodes_behind, nodes_from, nowhere}
use Rattle.im_memory.specs.Touched.{Places, places_at, places_of, touched}

-- what stands on a page outside the set is none of what the set has the pages of
outside : (page : ℕ → ℕ) (set : List Bool) (xs : List ℕ) (p n : ℕ) → AreIn page set xs → has set p ≡ false → page n
    ≡ p → IsOther xs n
outside page set [] p n among out at = tt
outside page set (x ∷ xs) p n among out at = (
  λ e. true≢false (sym among.0 ∙ ap (λ k. has set k) (ap page (sym e) ∙ at)
      ∙ out),
  outside page set xs p n among.1 out at,
)

-- the records of a page outside a set that covers a command stay
pub covers-keeps : (m : MemoryState) (command : Command) (set : List Bool) → Covers m command set
    → KeepsOutside m command set
covers-keeps m command set covers after changes p out = record {
  cells_agree = λ a at. changes.cells a (outside page_of_cell set (touched m command).cells p a covers.of_cells out at);
  nodes_agree = λ n at. changes.nodes n
      (outside (page_of_node (length m.contents.cells)) set (touched m command).nodes p n covers.of_nodes out at);
  windows_agree = λ e at. changes.windows e
      (outside (page_of_session (length m.contents.cells) (length m.contents.windows)) set
      (touched m command).elements p e covers.of_elements out at);
}

-- the pages of cells in a row
pub AreIn-addresses : (set : List Bool) (base n : ℕ)
    → ((b : ℕ) → base ≤ b → b < base + n → has set (page_of_cell b) ≡ true) → AreIn page_of_cell set (addresses base n)
AreIn-addresses set base zero all = tt
AreIn-addresses set base (suc n) all = (
  all base (omega arith) (omega arith),
  AreIn-addresses set (suc base) n
      (λ b lo hi. all b (omega arith) (omega arith)),
)

-- one node more
pub nodes-more : (page : ℕ → ℕ) (nodes : List NodeRecord) (set : List Bool) (at next : ℕ) (left after : List Waiter)
    (who : Waiter) → left ≡ who ∷ after → next ≡ next_at nodes at
    → has set (page at) ≡ true → AreIn page set (nodes_from nodes next (length after))
    → AreIn page set (nodes_from nodes at (length left))
nodes-more page nodes set at next left after who is leads here among =
    subst (λ ws. AreIn page set (nodes_from nodes at (length ws))) (sym is)
    (here, subst (λ n. AreIn page set (nodes_from nodes n (length after))) leads among)

pub nodes-end : (page : ℕ → ℕ) (nodes : List NodeRecord) (set : List Bool) (at : ℕ) (left : List Waiter) → left ≡ []
    → AreIn page set (nodes_from nodes at (length left))
nodes-end page nodes set at left none = subst (λ ws. AreIn page set (nodes_from nodes at (length ws))) (sym none) tt

abbrev pub elements_of : List Waiter → List ℕ
elements_of waiters = map (λ (w : Waiter). w.element) waiters

pub sessions-more : (page : ℕ → ℕ) (set : List Bool) (left after : List Waiter) (who : Waiter) → left ≡ who ∷ after
    → has set (page who.element) ≡ true → AreIn page set (elements_of after) → AreIn page set (elements_of left)
sessions-more page set left after who is here among = subst (λ ws. AreIn page set (elements_of ws)) (sym is)
    (here, among)

pub sessions-end : (page : ℕ → ℕ) (set : List Bool) (left : List Waiter) → left ≡ [] → AreIn page set (elements_of left)
sessions-end page set left none = subst (λ ws. AreIn page set (elements_of ws)) (sym none) tt

-- the elements of those who get one value
pub elements-replies : (waiters : List Waiter) (v : ℕ) → elements_in (replies_to waiters v) ≡ elements_of waiters
elements-replies [] v = refl
elements-replies (w ∷ ws) v = ap (λ es. w.element ∷ es) (elements-replies ws v)

-- the sessions of those who are told something: of nobody, of readers, of a taker
pub told-none : (page : ℕ → ℕ) (set : List Bool) (told : List (Waiter × Reply)) → told ≡ []
    → AreIn page set (elements_in told)
told-none page set told none = subst (λ rs. AreIn page set (elements_in rs)) (sym none) tt

pub told-readers : (page : ℕ → ℕ) (set : List Bool) (told : List (Waiter × Reply)) (waiters : List Waiter) (v : ℕ)
    → told ≡ replies_to waiters v
    → AreIn page set (elements_of waiters) → AreIn page set (elements_in told)
told-readers page set told waiters v is among = subst (AreIn page set)
    (sym (ap elements_in is ∙ elements-replies waiters v)) among

pub told-taker : (page : ℕ → ℕ) (set : List Bool) (told : List (Waiter × Reply)) (w : Waiter) (ws : List Waiter)
    (v : ℕ) → told ≡ (put v (IsEmpty (w ∷ ws))).resumed
    → has set (page w.element) ≡ true → AreIn page set (elements_in told)
told-taker page set told w ws v is here = subst (λ rs. AreIn page set (elements_in rs)) (sym is) (here, tt)

-- an access that may not be made, and one that may
module _ (kind : Kind) where
  err-at : {X : Type 0} (none : X) (by : CellState → X) (at : Option Slot) (waiters : List Waiter) (reply : Reply)
      → access_in kind at ≡ Err reply → at_kind none kind by (held_of at waiters) ≡ none
  err-at none by None waiters reply e = refl
  err-at none by (Some slot) waiters reply e = by_kind (same_kind kind slot.block.kind) refl e
    where
      by_kind : (b : Bool) → same_kind kind slot.block.kind ≡ b → cond b (Ok slot.cell) (Err WrongKind) ≡ Err reply
          → at_kind none kind by (held_of (Some slot) waiters) ≡ none
      by_kind true same told = absurd (cc)
      by_kind false same told = ap (λ t. cond t (by (state_of slot.cell waiters)) none) same

  err-resumed : (serve : CellState → Served) (cells : List (Option Held)) (a : ℕ) (at : Option Slot)
      (waiters : List Waiter) (reply : Reply) → access_in kind at ≡ Err reply
      → (at_cell kind serve cells a (held_of at waiters)).resumed ≡ []
  err-resumed serve cells a None waiters reply e = refl
  err-resumed serve cells a (Some slot) waiters reply e = by_kind (same_kind kind slot.block.kind) refl e
    where
      by_kind : (b : Bool) → same_kind kind slot.block.kind ≡ b → cond b (Ok slot.cell) (Err WrongKind) ≡ Err reply
          → (at_cell kind serve cells a (held_of (Some slot) waiters)).resumed ≡ []
      by_kind true same told = absurd (cc)
      by_kind false same told = ap
          (λ t. (cond t (serve_cell cells a slot.block (serve (state_of slot.cell waiters)))
          (only_tells cells WrongKind)).resumed) same

  ok-kind : (slot : Slot) (cell : Cell) → access_in kind (Some slot) ≡ Ok cell
      → (same_kind kind slot.block.kind ≡ true) × (slot.cell ≡ cell)
  ok-kind slot cell e = by_kind (same_kind kind slot.block.kind) refl e
    where
      by_kind : (b : Bool) → same_kind kind slot.block.kind ≡ b → cond b (Ok slot.cell) (Err WrongKind) ≡ Ok cell
          → (same_kind kind slot.block.kind ≡ true) × (slot.cell ≡ cell)
      by_kind true same told = (same, cc)
      by_kind false same told = absurd (cc)

  ok-at : {X : Type 0} (none : X) (by : CellState → X) (at : Option Slot) (waiters : List Waiter) (cell : Cell)
      → access_in kind at ≡ Ok cell → at_kind none kind by (held_of at waiters) ≡ by (state_of cell waiters)
  ok-at none by None waiters cell e = absurd (cc)
  ok-at none by (Some slot) waiters cell e =
      let is = ok-kind slot cell e in
      ap (λ t. cond t (by (state_of slot.cell waiters)) none) is.0 ∙ ap (λ c. by (state_of c waiters)) is.1

  ok-resumed : (serve : CellState → Served) (cells : List (Option Held)) (a : ℕ) (at : Option Slot)
      (waiters : List Waiter) (cell : Cell) → access_in kind at ≡ Ok cell
      → (at_cell kind serve cells a (held_of at waiters)).resumed ≡ (serve (state_of cell waiters)).resumed
  ok-resumed serve cells a None waiters cell e = absurd (cc)
  ok-resumed serve cells a (Some slot) waiters cell e =
      let is = ok-kind slot cell e in
      ap (λ t. (cond t (serve_cell cells a slot.block (serve (state_of slot.cell waiters)))
      (only_tells cells WrongKind)).resumed) is.0 ∙ ap (λ c. (serve (state_of c waiters)).resumed) is.1

  ok-waits : (at : Option Slot) (cell : Cell) → access_in kind at ≡ Ok cell → is_waiting_slot at ≡ cell_waits cell
  ok-waits None cell e = absurd (cc)
  ok-waits (Some slot) cell e = ap cell_waits (ok-kind slot cell e).1

some_first : (waiters : List Waiter) → has_some waiters ≡ true → (w : Waiter) × (ws : List Waiter) × (waiters ≡ w ∷ ws)
some_first [] e = absurd (cc)
some_first (w ∷ ws) e = (w, ws, refl)

module _ (kind : Kind) (slots : List (Option Slot)) (arena : Shown) (a : ℕ) where
  abbrev cells : List (Option Held)
  cells = cells_of slots arena

  abbrev waiters : List Waiter
  waiters = list_at arena.held a

  pub HasPlaces-err : (n : ℕ) (by : CellState → Places) (set : List Bool) (reply : Reply)
      → access_in kind (slot_at slots a) ≡ Err reply → HasPlaces n (places_at kind by (held_at cells a)) set
  HasPlaces-err n by set reply e =
      subst (λ p. HasPlaces n p set)
      (sym (ap (places_at kind by) (held_at-cells slots arena a)
      ∙ err-at kind nowhere by (slot_at slots a) waiters reply e)) (record { of_cells = tt; of_nodes = tt })

  pub HasPlaces-ok : (n : ℕ) (by : CellState → Places) (set : List Bool) (cell : Cell)
      → access_in kind (slot_at slots a) ≡ Ok cell
      → HasPlaces n (by (state_of cell waiters)) set → HasPlaces n (places_at kind by (held_at cells a)) set
  HasPlaces-ok n by set cell e it =
      subst (λ p. HasPlaces n p set)
      (sym (ap (places_at kind by) (held_at-cells slots arena a)
      ∙ ok-at kind nowhere by (slot_at slots a) waiters cell e)) it

  pub resumed-err : (serve : CellState → Served) (reply : Reply) → access_in kind (slot_at slots a) ≡ Err reply
      → (at_cell kind serve cells a (held_at cells a)).resumed ≡ []
  resumed-err serve reply e = ap (λ h. (at_cell kind serve cells a h).resumed) (held_at-cells slots arena a)
      ∙ err-resumed kind serve cells a (slot_at slots a) waiters reply e

  pub resumed-ok : (serve : CellState → Served) (cell : Cell) → access_in kind (slot_at slots a) ≡ Ok cell
      → (at_cell kind serve cells a (held_at cells a)).resumed ≡ (serve (state_of cell waiters)).resumed
  resumed-ok serve cell e = ap (λ h. (at_cell kind serve cells a h).resumed) (held_at-cells slots arena a)
      ∙ ok-resumed kind serve cells a (slot_at slots a) waiters cell e

  pub most-ok : (most : CellState → ℕ) (cell : Cell) → access_in kind (slot_at slots a) ≡ Ok cell
      → most_at kind most (held_at cells a) ≡ most (state_of cell waiters)
  most-ok most cell e = ap (most_at kind most) (held_at-cells slots arena a)
      ∙ ok-at kind 0 most (slot_at slots a) waiters cell e

  -- nobody is on the list of a cell that doesn't wait, and somebody on that of one that does
  pub nobody : (cell : Cell) → access_in kind (slot_at slots a) ≡ Ok cell → Agree slots arena → cell_waits cell
      ≡ false → waiters ≡ []
  nobody cell e agree quiet = no_list waiters (sym (agree.each a) ∙ ok-waits kind (slot_at slots a) cell e ∙ quiet)

  pub somebody : access_in kind (slot_at slots a) ≡ Ok Waiting → Agree slots arena → (w : Waiter)
      × (ws : List Waiter) × (waiters ≡ w ∷ ws)
  somebody e agree = some_first waiters (sym (agree.each a) ∙ ok-waits kind (slot_at slots a) Waiting e)

  -- who isn't there was refused
  pub no_cell : (serve : CellState → Served) → ((state : CellState) → (serve state).entry ≡ Answered NoCell → ⊥)
      → (at_cell kind serve cells a (held_at cells a)).entry ≡ Answered NoCell → (reply : Reply)
      × (access_in kind (slot_at slots a) ≡ Err reply)
  no_cell serve never e = elim (look slots arena kind a) [
    | refused reply refuses nothing tells ↦ (reply, refuses)
    | there slot is by does ↦ absurd
        (never (state_of slot.cell waiters) (sym (ap (λ (x : ActedCells). x.entry) (does serve)) ∙ e))
  ]

-- what holds of a cell that doesn't wait, by its state
pub quiet-state : (P : CellState → Type 0) (cell : Cell) (ws : List Waiter) → cell ≢ Waiting → ws ≡ []
    → P (IsEmpty []) → ((v : ℕ) → P (IsFull v)) → ((v : ℕ) → P (IsClashed v)) → P (state_of cell ws)
quiet-state P Empty ws other none empty full clashed = subst (λ xs. P (IsEmpty xs)) (sym none) empty
quiet-state P Waiting ws other none empty full clashed = absurd (other refl)
quiet-state P (Full v) ws other none empty full clashed = full v
quiet-state P (Clashed v) ws other none empty full clashed = clashed v

pub quiet-cell : (cell : Cell) → cell ≢ Waiting → cell_waits cell ≡ false
quiet-cell Empty other = refl
quiet-cell Waiting other = absurd (other refl)
quiet-cell (Full v) other = refl
quiet-cell (Clashed v) other = refl

-- where a request waits
pub HasPlaces-behind : (n spare last a : ℕ) (waiters : List Waiter) (set : List Bool) → has set (page_of_cell a)
    ≡ true → has set (page_of_node n spare) ≡ true
    → ((w : Waiter) (ws : List Waiter) → waiters ≡ w ∷ ws → has set (page_of_node n last) ≡ true)
    → HasPlaces n (record { cells = a ∷ []; nodes = nodes_behind spare last waiters }) set
HasPlaces-behind n spare last a [] set cell free before = record { of_cells = (cell, tt); of_nodes = (free, tt) }
HasPlaces-behind n spare last a
    (w ∷ ws) set cell free before = record { of_cells = (cell, tt); of_nodes = (free, (before w ws refl, tt)) }

module _ (slots : List (Option Slot)) (arena : Shown) (agree : Agree slots arena) (a n : ℕ) (set : List Bool)
    (cell_in : has set (page_of_cell a) ≡ true) where
  abbrev last : ℕ
  last = last_at (rows_of slots arena) a

  abbrev first : ℕ
  first = first_at (rows_of slots arena) a

  -- who finds no value
  module _ (spare_in : has set (page_of_node n arena.links.spare) ≡ true)
      (last_in_set : has set (page_of_node n (last_in (ends_at arena.links a))) ≡ true) where
    behind : HasPlaces n (record {
      cells = a ∷ [];
      nodes = nodes_behind arena.links.spare last
          (list_at arena.held a);
    }) set
    behind = HasPlaces-behind n arena.links.spare last a (list_at arena.held a) set cell_in spare_in
        (λ w ws is. subst (λ m. has set (page_of_node n m) ≡ true)
        (sym (named slots arena agree a w ws is).1) last_in_set)

    pub fetch-open : (cell : Cell) → ((v : ℕ) → cell ≡ Full v → ⊥) → ((v : ℕ) → cell ≡ Clashed v → ⊥)
        → HasPlaces n (by_fetch arena.links.spare last a (state_of cell (list_at arena.held a))) set
    fetch-open Empty full clashed = behind
    fetch-open Waiting full clashed = behind
    fetch-open (Full v) full clashed = absurd (full v refl)
    fetch-open (Clashed v) full clashed = absurd (clashed v refl)

    pub take-open : (cell : Cell) → ((v : ℕ) → cell ≡ Full v → ⊥) → ((v : ℕ) → cell ≡ Clashed v → ⊥)
        → HasPlaces n (by_take arena.links.spare last a (state_of cell (list_at arena.held a))) set
    take-open Empty full clashed = behind
    take-open Waiting full clashed = behind
    take-open (Full v) full clashed = absurd (full v refl)
    take-open (Clashed v) full clashed = absurd (clashed v refl)

  -- a store to a cell that waits
  pub store-readers : AreIn (page_of_node n) set
      (nodes_from arena.links.records (first_in (ends_at arena.links a)) (length (list_at arena.held a)))
      → HasPlaces n (by_store arena.links.records first a (IsEmpty (list_at arena.held a))) set
  store-readers among = record { of_cells = (cell_in, tt); of_nodes = by_list (list_at arena.held a) refl among }
    where
      by_list : (ws : List Waiter) → list_at arena.held a ≡ ws
          → AreIn (page_of_node n) set (nodes_from arena.links.records (first_in (ends_at arena.links a)) (length ws))
          → AreIn (page_of_node n) set (nodes_from arena.links.records first (length ws))
      by_list [] is among = tt
      by_list (w ∷ ws) is among = subst
          (λ m. AreIn (page_of_node n) set (nodes_from arena.links.records m (length (w ∷ ws))))
          (sym (named slots arena agree a w ws is).0) among

  -- a store or a put to a cell that doesn't wait
  pub other-cell : (by : CellState → Places) → by (IsEmpty []) ≡ cell_alone a → ((v : ℕ) → by (IsFull v) ≡ cell_alone a)
      → ((v : ℕ) → by (IsClashed v) ≡ cell_alone a)
      → (cell : Cell) → cell ≢ Waiting → list_at arena.held a ≡ []
      → HasPlaces n (by (state_of cell (list_at arena.held a))) set
  other-cell by empty full clashed cell other none = quiet-state (λ state. HasPlaces n (by state) set) cell
      (list_at arena.held a) other none (of_one (by (IsEmpty [])) empty) (λ v. of_one (by (IsFull v)) (full v))
      (λ v. of_one (by (IsClashed v)) (clashed v))
    where
      of_one : (p : Places) → p ≡ cell_alone a → HasPlaces n p set
      of_one p is = subst (λ p. HasPlaces n p set) (sym is) (record { of_cells = (cell_in, tt); of_nodes = tt })

  -- a put to a cell that waits
  pub put-taker : has set (page_of_node n (first_in (ends_at arena.links a))) ≡ true
      → HasPlaces n (by_put first a (IsEmpty (list_at arena.held a))) set
  put-taker begins = by_list (list_at arena.held a) refl
    where
      by_list : (ws : List Waiter) → list_at arena.held a ≡ ws → HasPlaces n (by_put first a (IsEmpty ws)) set
      by_list [] is = record { of_cells = (cell_in, tt); of_nodes = tt }
      by_list (w ∷ ws) is = record {
        of_cells = (cell_in, tt);
        of_nodes =
            (subst (λ m. has set (page_of_node n m) ≡ true) (sym (named slots arena agree a w ws is).0) begins, tt);
      }

pub fetch-tells : (who : Waiter) (state : CellState) → (fetch who state).entry ≡ Answered NoCell → ⊥
fetch-tells who (IsEmpty ws) e = cc
fetch-tells who (IsFull v) e = cc
fetch-tells who (IsClashed v) e = cc

pub take-tells : (who : Waiter) (state : CellState) → (take_from who state).entry ≡ Answered NoCell → ⊥
take-tells who (IsEmpty ws) e = cc
take-tells who (IsFull v) e = cc
take-tells who (IsClashed v) e = cc

pub store-tells : (v : ℕ) (state : CellState) → (store v state).entry ≡ Answered NoCell → ⊥
store-tells v (IsEmpty ws) e = cc
store-tells v (IsFull w) e = cc
store-tells v (IsClashed w) e = cc

pub put-tells : (v : ℕ) (state : CellState) → (put v state).entry ≡ Answered NoCell → ⊥
put-tells v (IsEmpty []) e = cc
put-tells v (IsEmpty (w ∷ ws)) e = cc
put-tells v (IsFull w) e = cc
put-tells v (IsClashed w) e = cc

-- the pages from that of the first cell up to that of the last one
pub cells-count : (base n low high : ℕ) → n ≢ 0 → low ≡ page_of_cell base → high ≡ page_of_cell (base + n - 1)
    → high + 1 - low ≡ block_pages base n
cells-count base zero low high some from to = absurd (some refl)
cells-count base (suc n) low high some from to =
    let at : base + suc n - 1 ≡ base + n = omega arith in
    ap (λ k. k + 1 - low) (to ∙ ap page_of_cell at) ∙ ap (λ k. page_of_cell (base + n) + 1 - k) from

pub cells-more : (set : List Bool) (base n low high : ℕ) → n ≢ 0 → low ≡ page_of_cell base
    → high ≡ page_of_cell (base + n - 1) → with_pages set low (high + 1 - low) ≡ with_cells set base n
cells-more set base zero low high some from to = absurd (some refl)
cells-more set base (suc n) low high some from to =
    ap (λ k. with_pages set k (high + 1 - low)) from
    ∙ ap (λ k. with_pages set (page_of_cell base) k) (cells-count base (suc n) low high some from to)

-- the block that is released or reset, if there is one
module _ (slots : List (Option Slot)) (arena : Shown) (a : ℕ) where
  abbrev pub block_in : Option Block
  block_in = block_with_base a (held_at (cells_of slots arena) a)

  pub is-inner : (block : Block) → Some block ≡ slot_block slots a → block.base ≢ a → None ≡ block_in
  is-inner block e base =
      let t : (block.base == a) ≡ false = grind (arith, nat_tests) in
      sym (with_base-cells slots arena a ∙ ap (slot_with_base a) (sym e) ∙ ap (λ b. cond b (Some block) None) t)

  pub is-none : None ≡ slot_block slots a → None ≡ block_in
  is-none e = sym (with_base-cells slots arena a ∙ ap (slot_with_base a) (sym e))

-- the cells of a block that is released or reset, and of none
module _ (slots : List (Option Slot)) (arena : Shown) (a n : ℕ) (set : List Bool) where
  pub whole-block : (block : Block) → Some block ≡ slot_block slots a → block.base ≡ a
      → AreIn page_of_cell set (addresses block.base block.length)
      → HasPlaces n (places_of (block_with_base a (held_at (cells_of slots arena) a))) set
  whole-block block e base among = subst (λ o. HasPlaces n (places_of o) set) (found-base slots arena a block e base)
      (record { of_cells = among; of_nodes = tt })

  pub whole-inner : (block : Block) → Some block ≡ slot_block slots a → block.base ≢ a
      → HasPlaces n (places_of (block_with_base a (held_at (cells_of slots arena) a))) set
  whole-inner block e base = subst (λ o. HasPlaces n (places_of o) set) (is-inner slots arena a block e base)
      (record { of_cells = tt; of_nodes = tt })

  pub whole-none : None ≡ slot_block slots a
      → HasPlaces n (places_of (block_with_base a (held_at (cells_of slots arena) a))) set
  whole-none e = subst (λ o. HasPlaces n (places_of o) set) (is-none slots arena a e)
      (record { of_cells = tt; of_nodes = tt })

-- the cells of a new block, and of none
module _ (slots : List (Option Slot)) (arena : Shown) (kind : Kind) (length n : ℕ) (set : List Bool) where
  pub alloc-block : (base : ℕ) → Some base ≡ place length slots → AreIn page_of_cell set (addresses base length)
      → HasPlaces n (places_in slots arena (Alloc kind length)) set
  alloc-block base e among = subst (λ o. HasPlaces n (made_places length o) set)
      (e ∙ sym (place-cells slots arena length)) (record { of_cells = among; of_nodes = tt })

  pub alloc-none : None ≡ place length slots → HasPlaces n (places_in slots arena (Alloc kind length)) set
  alloc-none e = subst (λ o. HasPlaces n (made_places length o) set) (e ∙ sym (place-cells slots arena length))
      (record { of_cells = tt; of_nodes = tt })
