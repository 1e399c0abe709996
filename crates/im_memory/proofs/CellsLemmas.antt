-- A table and an arena, seen as the cells of a memory.
use Rattle.std.proofs.Common.{◌≡◌, ℕ, zero, suc, ◌+◌, ◌<◌, ◌≤◌, Bool, true, false, cond, ◌||◌, List, [], ◌∷◌, length}
use Rattle.std.proofs.Common.{take, drop, Some, None, Option, option_map, sym, refl, ap, ◌∙◌, arith}
use Rattle.std.specs.List.{list_any}
use Rattle.im_types.specs.Types.{Waiter, Empty as IsEmpty, Held, held_at, block_at, Cell, CellEmpty as Empty}
use Rattle.im_types.specs.Types.{CellWaiting as Waiting, CellFull as Full, CellClashed as Clashed, begins_free, place}
use Rattle.im_types.specs.Types.{fill, change_each, block_with_base, has_waiter, is_waiting_cell, emptied}
use Rattle.{im_arena.specs.Lists.list_at, im_arena.specs.Lists.Shown, im_cell.specs.declared.Slot.Slot}
use Rattle.im_cell.specs.Slots.{block_from as slot_with_base, block_in, cell_waits as is_waiting_state, is_waiting_slot}
use Rattle.im_cell.specs.Slots.{slot_at, slot_block as block_at_slots, with_cell}
use Rattle.im_istore.{proofs.Cells.held_at-cells, proofs.Cells.list_of, specs.Agreement.Agree, specs.Agreement.has_some}
use Rattle.im_istore.specs.Joined.{cells_of, held_of, joined_cells, state_of}

length-joined : (slots : List (Option Slot)) (lists : List (List Waiter))
    → length (joined_cells slots lists) ≡ length slots
length-joined [] lists = refl
length-joined (slot ∷ slots) [] = ap suc (length-joined slots [])
length-joined (slot ∷ slots) (waiters ∷ lists) = ap suc (length-joined slots lists)

begins_free-joined : (n : ℕ) (slots : List (Option Slot)) (lists : List (List Waiter))
    → begins_free n (joined_cells slots lists) ≡ begins_free n slots
begins_free-joined zero slots lists = refl
begins_free-joined (suc n) [] lists = refl
begins_free-joined (suc n) (None ∷ slots) [] = begins_free-joined n slots []
begins_free-joined (suc n) (None ∷ slots) (waiters ∷ lists) = begins_free-joined n slots lists
begins_free-joined (suc n) (Some slot ∷ slots) [] = refl
begins_free-joined (suc n) (Some slot ∷ slots) (waiters ∷ lists) = refl

place-joined : (n : ℕ) (slots : List (Option Slot)) (lists : List (List Waiter)) → place n (joined_cells slots lists)
    ≡ place n slots
place-joined n [] lists = refl
place-joined n (slot ∷ slots) [] =
    ap (λ b. cond b (Some 0) (option_map suc (place n (joined_cells slots []))))
    (begins_free-joined n (slot ∷ slots) [])
    ∙ ap (λ o. cond (begins_free n (slot ∷ slots)) (Some 0) (option_map suc o)) (place-joined n slots [])
place-joined n (slot ∷ slots) (waiters ∷ lists) =
    ap (λ b. cond b (Some 0) (option_map suc (place n (joined_cells slots lists))))
    (begins_free-joined n (slot ∷ slots) (waiters ∷ lists))
    ∙ ap (λ o. cond (begins_free n (slot ∷ slots)) (Some 0) (option_map suc o)) (place-joined n slots lists)

joined-fill : (slots : List (Option Slot)) (lists : List (List Waiter)) (base n : ℕ) (slot : Option Slot)
    (held : Option Held)
    → ((a : ℕ) → base ≤ a → a < base + n → held_of slot (list_of lists a) ≡ held)
    → joined_cells (fill slots base n slot) lists ≡ fill (joined_cells slots lists) base n held
joined-fill [] lists base n slot held same = refl
joined-fill (s ∷ slots) [] zero zero slot held same = refl
joined-fill (s ∷ slots) (waiters ∷ lists) zero zero slot held same = refl
joined-fill (s ∷ slots) [] zero (suc n) slot held same =
    ap (λ h. h ∷ joined_cells (fill slots zero n slot) []) (same 0 (omega arith) (omega arith))
    ∙ ap (λ cells. held ∷ cells)
    (joined-fill slots [] zero n slot held (λ a lo hi. same (suc a) (omega arith) (omega arith)))
joined-fill (s ∷ slots) (waiters ∷ lists) zero (suc n) slot held same =
    ap (λ h. h ∷ joined_cells (fill slots zero n slot) lists) (same 0 (omega arith) (omega arith))
    ∙ ap (λ cells. held ∷ cells)
    (joined-fill slots lists zero n slot held (λ a lo hi. same (suc a) (omega arith) (omega arith)))
joined-fill (s ∷ slots) [] (suc base) n slot held same =
    ap (λ cells. held_of s [] ∷ cells)
    (joined-fill slots [] base n slot held (λ a lo hi. same (suc a) (omega arith) (omega arith)))
joined-fill (s ∷ slots) (waiters ∷ lists) (suc base) n slot held same =
    ap (λ cells. held_of s waiters ∷ cells)
    (joined-fill slots lists base n slot held (λ a lo hi. same (suc a) (omega arith) (omega arith)))

pub no_list : (waiters : List Waiter) → has_some waiters ≡ false → waiters ≡ []
no_list [] e = refl
no_list (waiter ∷ waiters) e = absurd (cc)

neither : (p q : Bool) → (p || q) ≡ false → (p ≡ false) × (q ≡ false)
neither true q e = absurd (cc)
neither false q e = (refl, e)

emptied-held : (s : Option Slot) (waiters : List Waiter) → waiters ≡ [] → held_of (with_cell Empty s) waiters
    ≡ emptied (held_of s waiters)
emptied-held None waiters none = refl
emptied-held (Some slot) waiters none = ap
    (λ waiters. Some (record { block = slot.block; state = IsEmpty waiters })) none

joined-emptied : (slots : List (Option Slot)) (lists : List (List Waiter)) (base n : ℕ)
    → list_any is_waiting_slot (take n (drop base slots)) ≡ false
    → ((a : ℕ) → is_waiting_slot (slot_at slots a) ≡ has_some (list_of lists a))
    → joined_cells (change_each (with_cell Empty) slots base n) lists
    ≡ change_each emptied (joined_cells slots lists) base n
joined-emptied [] lists base n none agree = refl
joined-emptied (s ∷ slots) [] zero zero none agree = refl
joined-emptied (s ∷ slots) (waiters ∷ lists) zero zero none agree = refl
joined-emptied (s ∷ slots) [] zero (suc n) none agree =
    ap (λ h. h ∷ joined_cells (change_each (with_cell Empty) slots zero n) []) (emptied-held s [] refl)
    ∙ ap (λ cells. emptied (held_of s []) ∷ cells)
    (joined-emptied slots [] zero n (neither (is_waiting_slot s) _ none).1 (λ a. agree (suc a)))
joined-emptied (s ∷ slots) (waiters ∷ lists) zero (suc n) none agree =
    ap (λ h. h ∷ joined_cells (change_each (with_cell Empty) slots zero n) lists)
    (emptied-held s waiters (no_list waiters (sym (agree 0) ∙ (neither (is_waiting_slot s) _ none).0)))
    ∙ ap (λ cells. emptied (held_of s waiters) ∷ cells)
    (joined-emptied slots lists zero n (neither (is_waiting_slot s) _ none).1 (λ a. agree (suc a)))
joined-emptied (s ∷ slots) [] (suc base) n none agree = ap (λ cells. held_of s [] ∷ cells)
    (joined-emptied slots [] base n none (λ a. agree (suc a)))
joined-emptied (s ∷ slots) (waiters ∷ lists) (suc base) n none agree = ap (λ cells. held_of s waiters ∷ cells)
    (joined-emptied slots lists base n none (λ a. agree (suc a)))

-- a cell waits by the definitions exactly where it is marked as waiting
waiting-state : (cell : Cell) (waiters : List Waiter) → is_waiting_state cell ≡ has_some waiters
    → has_waiter (state_of cell waiters) ≡ is_waiting_state cell
waiting-state Empty [] e = refl
waiting-state Empty (waiter ∷ waiters) e = sym e
waiting-state Waiting [] e = sym e
waiting-state Waiting (waiter ∷ waiters) e = refl
waiting-state (Full v) waiters e = refl
waiting-state (Clashed v) waiters e = refl

waiting-held : (slot : Option Slot) (waiters : List Waiter) → is_waiting_slot slot ≡ has_some waiters
    → is_waiting_cell (held_of slot waiters) ≡ is_waiting_slot slot
waiting-held None waiters e = refl
waiting-held (Some slot) waiters e = waiting-state slot.cell waiters e

any_waiting-joined : (slots : List (Option Slot)) (lists : List (List Waiter)) (base n : ℕ)
    → ((a : ℕ) → is_waiting_slot (slot_at slots a) ≡ has_some (list_of lists a))
    → list_any is_waiting_cell (take n (drop base (joined_cells slots lists)))
    ≡ list_any is_waiting_slot (take n (drop base slots))
any_waiting-joined [] lists zero zero agree = refl
any_waiting-joined [] lists zero (suc n) agree = refl
any_waiting-joined [] lists (suc base) zero agree = refl
any_waiting-joined [] lists (suc base) (suc n) agree = refl
any_waiting-joined (s ∷ slots) lists zero zero agree = refl
any_waiting-joined (s ∷ slots) [] zero (suc n) agree =
    ap (λ b. b || list_any is_waiting_cell (take n (joined_cells slots []))) (waiting-held s [] (agree 0))
    ∙ ap (λ b. is_waiting_slot s || b) (any_waiting-joined slots [] zero n (λ a. agree (suc a)))
any_waiting-joined (s ∷ slots) (waiters ∷ lists) zero (suc n) agree =
    ap (λ b. b || list_any is_waiting_cell (take n (joined_cells slots lists))) (waiting-held s waiters (agree 0))
    ∙ ap (λ b. is_waiting_slot s || b) (any_waiting-joined slots lists zero n (λ a. agree (suc a)))
any_waiting-joined (s ∷ slots) [] (suc base) n agree = any_waiting-joined slots [] base n (λ a. agree (suc a))
any_waiting-joined (s ∷ slots) (waiters ∷ lists) (suc base) n agree = any_waiting-joined slots lists base n
    (λ a. agree (suc a))

block_at-held : (slot : Option Slot) (waiters : List Waiter)
    → option_map (λ (held : Held). held.block) (held_of slot waiters) ≡ block_in slot
block_at-held None waiters = refl
block_at-held (Some slot) waiters = refl

with_base-held : (a : ℕ) (slot : Option Slot) (waiters : List Waiter) → block_with_base a (held_of slot waiters)
    ≡ slot_with_base a (block_in slot)
with_base-held a None waiters = refl
with_base-held a (Some slot) waiters = refl

module _ (slots : List (Option Slot)) (arena : Shown) where
  pub length-cells : length (cells_of slots arena) ≡ length slots
  length-cells = length-joined slots arena.held.lists

  pub place-cells : (n : ℕ) → place n (cells_of slots arena) ≡ place n slots
  place-cells n = place-joined n slots arena.held.lists

  pub cells-fill : (base n : ℕ) (slot : Option Slot) (held : Option Held)
      → ((a : ℕ) → base ≤ a → a < base + n → held_of slot (list_at arena.held a) ≡ held)
      → cells_of (fill slots base n slot) arena ≡ fill (cells_of slots arena) base n held
  cells-fill base n slot held same = joined-fill slots arena.held.lists base n slot held same

  pub cells-emptied : Agree slots arena → (base n : ℕ) → list_any is_waiting_slot (take n (drop base slots)) ≡ false
      → cells_of (change_each (with_cell Empty) slots base n) arena ≡ change_each emptied (cells_of slots arena) base n
  cells-emptied agree base n none = joined-emptied slots arena.held.lists base n none agree.each

  pub any_waiting-cells : Agree slots arena → (base n : ℕ)
      → list_any is_waiting_cell (take n (drop base (cells_of slots arena)))
      ≡ list_any is_waiting_slot (take n (drop base slots))
  any_waiting-cells agree base n = any_waiting-joined slots arena.held.lists base n agree.each

  pub block_at-cells : (a : ℕ) → block_at (cells_of slots arena) a ≡ block_at_slots slots a
  block_at-cells a = ap (option_map (λ (held : Held). held.block)) (held_at-cells slots arena a)
      ∙ block_at-held (slot_at slots a) (list_at arena.held a)

  pub with_base-cells : (a : ℕ) → block_with_base a (held_at (cells_of slots arena) a)
      ≡ slot_with_base a (block_at_slots slots a)
  with_base-cells a = ap (block_with_base a) (held_at-cells slots arena a)
      ∙ with_base-held a (slot_at slots a) (list_at arena.held a)

  -- nobody is on the list of a free cell
  pub free-list : Agree slots arena → (a : ℕ) → slot_at slots a ≡ None → list_at arena.held a ≡ []
  free-list agree a free = no_list (list_at arena.held a) (sym (agree.each a) ∙ ap is_waiting_slot free)
