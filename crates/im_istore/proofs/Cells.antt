-- The joined cells and their agreement, after a slot and a list at one address are written.
use Rattle.std.proofs.Common.{◌≡◌, ℕ, zero, suc, ◌<◌, false, ◌≢◌, List, [], ◌∷◌, length, get_or, set, Some, None}
use Rattle.std.proofs.Common.{Option, sym, refl, ap, ◌∙◌, inl, inr, arith, length-set, get_or-set_other}
use Rattle.std.proofs.Common.{get_or-set_same}
use Rattle.std.proofs.lemmas.{Bool.cases_eq, List.set-get_or}
use Rattle.im_types.specs.Types.{Waiter, CellState, Held, held_at, CellFull as Full}
use Rattle.im_arena.specs.Lists.{list_at, Lists, Shown, with_list}
use Rattle.im_cell.specs.declared.Slot.{Slot}
use Rattle.im_cell.specs.Slots.{cell_at, cell_waits, is_waiting_slot, slot_at, slot_cell}
use Rattle.im_istore.specs.Agreement.{Agree, AgreeBut, has_some}
use Rattle.im_istore.specs.Joined.{cells_of, held_of, joined_cells, state_of}

abbrev pub list_of : List (List Waiter) → ℕ → List Waiter
list_of lists a = get_or lists a []

pub held_at-joined : (slots : List (Option Slot)) (lists : List (List Waiter)) (a : ℕ)
    → held_at (joined_cells slots lists) a ≡ held_of (slot_at slots a) (list_of lists a)
held_at-joined [] lists a = refl
held_at-joined (slot ∷ slots) [] zero = refl
held_at-joined (slot ∷ slots) [] (suc a) = held_at-joined slots [] a
held_at-joined (slot ∷ slots) (waiters ∷ lists) zero = refl
held_at-joined (slot ∷ slots) (waiters ∷ lists) (suc a) = held_at-joined slots lists a

pub held_at-cells : (slots : List (Option Slot)) (arena : Shown) (a : ℕ) → held_at (cells_of slots arena) a
    ≡ held_of (slot_at slots a) (list_at arena.held a)
held_at-cells slots arena a = held_at-joined slots arena.held.lists a

joined-set : (slots : List (Option Slot)) (lists : List (List Waiter)) (a : ℕ) (slot : Option Slot)
    (waiters : List Waiter)
    → length lists ≡ length slots → joined_cells (set slots a slot) (set lists a waiters)
    ≡ set (joined_cells slots lists) a (held_of slot waiters)
joined-set [] lists a slot waiters e = refl
joined-set (was ∷ slots) [] a slot waiters e = absurd (omega arith)
joined-set (was ∷ slots) (old ∷ lists) zero slot waiters e = refl
joined-set (was ∷ slots) (old ∷ lists) (suc a) slot waiters e = ap (λ cells. held_of was old ∷ cells)
    (joined-set slots lists a slot waiters (omega arith))

-- a slot that is there is within the table
pub slot_at-within : (slots : List (Option Slot)) (a : ℕ) (slot : Slot) → slot_at slots a ≡ Some slot → a < length slots
slot_at-within [] a slot e = absurd (cc)
slot_at-within (was ∷ slots) zero slot e = omega arith
slot_at-within (was ∷ slots) (suc a) slot e = let h : a < length slots = slot_at-within slots a slot e in omega arith

-- the list that stands there already
pub with_list-same : (held : Lists) (a : ℕ) → held ≡ with_list held a (list_at held a)
with_list-same held a = sym (ap (λ (lists : List (List Waiter)). with_lists held lists) (set-get_or held.lists a []))
  where
    with_lists : Lists → List (List Waiter) → Lists
    with_lists h lists = record { nodes = h.nodes; lists = lists }

-- a list is written
module _ (arena new : Shown) (a : ℕ) (waiters : List Waiter) (is : new.held ≡ with_list arena.held a waiters) where
  length-lists : length new.held.lists ≡ length arena.held.lists
  length-lists = ap (λ (h : Lists). length h.lists) is ∙ length-set arena.held.lists a waiters

  list_at-other : (b : ℕ) → b ≢ a → list_at new.held b ≡ list_at arena.held b
  list_at-other b other = ap (λ (h : Lists). list_at h b) is ∙ get_or-set_other arena.held.lists a b waiters [] other

  pub list_at-same : a < length arena.held.lists → list_at new.held a ≡ waiters
  list_at-same lt = ap (λ (h : Lists). list_at h a) is ∙ get_or-set_same arena.held.lists a waiters [] lt

  -- and a slot with it
  module _ (slots : List (Option Slot)) (slot : Option Slot) where
    pub cells-set : length arena.held.lists ≡ length slots → cells_of (set slots a slot) new
        ≡ set (cells_of slots arena) a (held_of slot waiters)
    cells-set same = ap (λ (h : Lists). joined_cells (set slots a slot) h.lists) is
        ∙ joined-set slots arena.held.lists a slot waiters same

    pub Agree-set : Agree slots arena → a < length slots → is_waiting_slot slot ≡ has_some waiters
        → Agree (set slots a slot) new
    Agree-set agree lt same = record {
      lists = length-lists ∙ agree.lists ∙ sym (length-set slots a slot);
      each = λ b. elim (cases_eq b a) [
        | inl at ↦
            ap (λ x. is_waiting_slot (slot_at (set slots a slot) x)) at
            ∙ ap is_waiting_slot (get_or-set_same slots a slot None lt)
            ∙ same ∙ ap has_some (sym (list_at-same (omega (arith, agree.lists))))
            ∙ ap (λ x. has_some (list_at new.held x)) (sym at)
        | inr other ↦
            ap is_waiting_slot (get_or-set_other slots a b slot None other) ∙ agree.each b
            ∙ ap has_some (sym (list_at-other b other))
      ];
    }

  -- of a full cell
  module _ (slots : List (Option Slot)) (but : AgreeBut a slots arena) where
    pub AgreeBut-list : AgreeBut a slots new
    AgreeBut-list = record {
      lists = length-lists ∙ but.lists;
      others = λ b other. but.others b other ∙ ap has_some (sym (list_at-other b other));
      full = but.full;
    }

    held_of-full : (slot : Option Slot) (v : ℕ) (some others : List Waiter) → slot_cell slot ≡ Some (Full v)
        → held_of slot some ≡ held_of slot others
    held_of-full None v some others e = absurd (cc)
    held_of-full (Some slot) v some others e =
        let is_full : slot.cell ≡ Full v = cc in
        ap (λ cell. in_block slot (state_of cell some)) is_full
        ∙ sym (ap (λ cell. in_block slot (state_of cell others)) is_full)
      where
        in_block : Slot → CellState → Option Held
        in_block s state = Some (record { block = s.block; state = state })

    pub cells-list : cells_of slots new ≡ cells_of slots arena
    cells-list =
        ap (λ x. cells_of x new) (sym (set-get_or slots a None))
        ∙ cells-set slots (slot_at slots a) but.lists
        ∙ ap (set (cells_of slots arena) a)
        (held_of-full (slot_at slots a) but.full.0 waiters (list_at arena.held a) but.full.1
        ∙ sym (held_at-cells slots arena a))
        ∙ set-get_or (cells_of slots arena) a None

-- what is held at an address, by its slot and its list
pub held_there : (slots : List (Option Slot)) (arena : Shown) (a : ℕ) → held_at (cells_of slots arena) a
    ≡ held_of (slot_at slots a) (list_at arena.held a)
held_there slots arena a = held_at-cells slots arena a

-- another slot at an address, and the same waiters
pub cells_there : (slots : List (Option Slot)) (arena : Shown) (a : ℕ) (slot : Option Slot) → length arena.held.lists
    ≡ length slots
    → cells_of (set slots a slot) arena ≡ set (cells_of slots arena) a (held_of slot (list_at arena.held a))
cells_there slots arena a slot same = cells-set arena arena a (list_at arena.held a)
    (with_list-same arena.held a) slots slot same

-- another slot and another list at an address
pub joined_there : (slots : List (Option Slot)) (lists : List (List Waiter)) (a : ℕ) (slot : Option Slot)
    (waiters : List Waiter)
    → length lists ≡ length slots → joined_cells (set slots a slot) (set lists a waiters)
    ≡ set (joined_cells slots lists) a (held_of slot waiters)
joined_there slots lists a slot waiters same = joined-set slots lists a slot waiters same

-- what is there already, put there
pub same_there : (cells : List (Option Held)) (a : ℕ) (held : Option Held) → held_at cells a ≡ held
    → set cells a held ≡ cells
same_there cells a held is = ap (set cells a) (sym is) ∙ set-get_or cells a None

-- a full cell doesn't wait
is_waiting-full : (slot : Option Slot) (v : ℕ) → slot_cell slot ≡ Some (Full v) → is_waiting_slot slot ≡ false
is_waiting-full None v e = refl
is_waiting-full (Some slot) v e = let is_full : slot.cell ≡ Full v = cc in ap cell_waits is_full

-- once the readers of a full cell are off its list, all agree
pub Agree-drained : (slots : List (Option Slot)) (arena : Shown) (a : ℕ) → AgreeBut a slots arena
    → list_at arena.held a ≡ [] → Agree slots arena
Agree-drained slots arena a but none = record {
  lists = but.lists;
  each = λ b. elim (cases_eq b a) [
    | inl at ↦
        ap (λ x. is_waiting_slot (slot_at slots x)) at ∙ is_waiting-full (slot_at slots a) but.full.0 but.full.1
        ∙ ap has_some (sym none) ∙ ap (λ x. has_some (list_at arena.held x)) (sym at)
    | inr other ↦ but.others b other
  ];
}

-- a cell becomes full while its readers are on its list
pub AgreeBut-filled : (slots : List (Option Slot)) (arena : Shown) (a : ℕ) (slot : Slot) (v : ℕ)
    → Agree slots arena → a < length slots → slot.cell ≡ Full v → AgreeBut a (set slots a (Some slot)) arena
AgreeBut-filled slots arena a slot v agree lt is_full = record {
  lists = agree.lists ∙ sym (length-set slots a (Some slot));
  others = λ b other. ap is_waiting_slot (get_or-set_other slots a b (Some slot) None other) ∙ agree.each b;
  full = (v, ap slot_cell (get_or-set_same slots a (Some slot) None lt) ∙ ap (λ cell. Some cell) is_full);
}

-- a full cell has a list
pub AgreeBut-inside : (slots : List (Option Slot)) (arena : Shown) (a : ℕ) → AgreeBut a slots arena
    → a < length arena.held.lists
AgreeBut-inside slots arena a but = omega (arith, but.lists, cell_at-within slots a but.full.0 but.full.1)
  where
    cell_at-within : (slots : List (Option Slot)) (a v : ℕ) → cell_at slots a ≡ Some (Full v) → a < length slots
    cell_at-within [] a v e = absurd (cc)
    cell_at-within (slot ∷ slots) zero v e = omega arith
    cell_at-within (slot ∷ slots) (suc a) v e = let h : a < length slots = cell_at-within slots a v e in omega arith

-- the joined cells after a slot and a list are written, for who writes them
pub ruleset there = (held_there, cells_there, joined_there, same_there)
