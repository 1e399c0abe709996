-- Cells in units, in which one record may stand for all.
use Rattle.std.proofs.Common.{◌≡◌, ℕ, zero, suc, ◌+◌, ◌-◌, ◌*◌, ◌/◌, ◌%◌, ◌<◌, ◌≤◌, min, max, Bool, true, false, ◌≢◌}
use Rattle.std.proofs.Common.{List, [], ◌∷◌, length, set, replicate, None, Option, sym, refl, ap, ◌∙◌, inl, inr, arith}
use Rattle.std.proofs.Common.{length-set, get_or-set_other, get_or-set_same, ext_get_or}
use Rattle.std.proofs.lemmas.Bool.{cases_eq, cases_lt}
use Rattle.std.proofs.lemmas.List.{get_or-replicate, get_or_past, length-replicate}
use Rattle.im_types.specs.Types.{fill}
use Rattle.im_laws.proofs.BlockLemmas.{get_or-fill_in, length-fill}
use Rattle.im_cell.proofs.Kept.{beside-fill}
use Rattle.im_cell.specs.{Cells.IsFilled, declared.slots.Slot.Slot, Slots.slot_at}
use Rattle.im_cell.specs.declared.unit.{TheConstants.UNIT, Unit.Unit}
use Rattle.im_cell.specs.declared.unit.Unit.TheVariants.{BlockI, BlockM, Each, Free}
use Rattle.im_cell.specs.Units.{common_slot, is_own, shown_from, shown_units, slot_by, unit_at}

length-shown_from : (i : ℕ) (units : List Unit) (slots : List (Option Slot)) → length (shown_from i units slots)
    ≡ length slots
length-shown_from i units [] = refl
length-shown_from i units (slot ∷ slots) = ap suc (length-shown_from (suc i) units slots)

pub length-shown : (units : List Unit) (slots : List (Option Slot)) → length (shown_units units slots) ≡ length slots
unfolding shown_units
length-shown units slots = length-shown_from 0 units slots

at-shown_from : (i : ℕ) (units : List Unit) (slots : List (Option Slot)) (k : ℕ) → k < length slots
    → slot_at (shown_from i units slots) k ≡ slot_by (unit_at units ((i + k) / UNIT)) (slot_at slots k)
at-shown_from i units [] k less = absurd (omega arith)
at-shown_from i units (slot ∷ slots) zero less = ap (λ j. slot_by (unit_at units (j / UNIT)) slot)
    (let e : i ≡ i + 0 = omega arith in e)
at-shown_from i units (slot ∷ slots) (suc k) less =
    at-shown_from (suc i) units slots k (omega arith)
    ∙ ap (λ j. slot_by (unit_at units (j / UNIT)) (slot_at slots k)) (let e : suc i + k ≡ i + suc k = omega arith in e)

-- the slot of a cell is its own, or that of its unit
pub at-shown : (units : List Unit) (slots : List (Option Slot)) (k : ℕ) → k < length slots
    → slot_at (shown_units units slots) k ≡ slot_by (unit_at units (k / UNIT)) (slot_at slots k)
unfolding shown_units
at-shown units slots k less = at-shown_from 0 units slots k less
    ∙ ap (λ j. slot_by (unit_at units (j / UNIT)) (slot_at slots k)) (let e : 0 + k ≡ k = omega arith in e)

-- past the last cell there is none
pub past-shown : (units : List Unit) (slots : List (Option Slot)) (k : ℕ) → length slots ≤ k
    → slot_at (shown_units units slots) k ≡ None
past-shown units slots k past = get_or_past (shown_units units slots) k None (omega (arith, length-shown units slots))

-- where one record stands for all cells of a unit, it is the slot of each
pub by-common : (unit : Unit) (own : Option Slot) → is_own unit ≡ false → slot_by unit own ≡ common_slot unit
by-common Each own e = absurd (cc)
by-common Free own e = refl
by-common (BlockI extent) own e = refl
by-common (BlockM extent) own e = refl

pub own-each : (unit : Unit) → is_own unit ≡ true → unit ≡ Each
own-each Each e = refl
own-each Free e = absurd (cc)
own-each (BlockI extent) e = absurd (cc)
own-each (BlockM extent) e = absurd (cc)

-- where none does, a cell has its own
pub at-own : (units : List Unit) (slots : List (Option Slot)) (k : ℕ) → unit_at units (k / UNIT) ≡ Each → k
    < length slots → slot_at (shown_units units slots) k ≡ slot_at slots k
at-own units slots k e less = at-shown units slots k less ∙ ap (λ u. slot_by u (slot_at slots k)) e

pub at-common : (units : List Unit) (slots : List (Option Slot)) (k : ℕ) → is_own (unit_at units (k / UNIT)) ≡ false
    → k < length slots → slot_at (shown_units units slots) k ≡ common_slot (unit_at units (k / UNIT))
at-common units slots k e less = at-shown units slots k less ∙ by-common (unit_at units (k / UNIT)) (slot_at slots k) e

-- each cell has its own
pub shown-plain : (units : List Unit) (slots : List (Option Slot)) → ((j : ℕ) → unit_at units j ≡ Each)
    → shown_units units slots ≡ slots
shown-plain units slots none = ext_get_or None (shown_units units slots) slots (length-shown units slots)
    (λ k less. at-own units slots k (none (k / UNIT)) (omega (arith, length-shown units slots)))

pub all-each : (n j : ℕ) → unit_at (replicate n Each) j ≡ Each
all-each n j = elim (cases_lt j n) [
  | inl less ↦ get_or-replicate n j Each Each less
  | inr past ↦ get_or_past (replicate n Each) j Each (omega (arith, length-replicate n Each))
]

-- the record that stood for the cells of a unit is written out
pub shown-written : (units units2 : List Unit) (slots slots2 : List (Option Slot)) (at from to : ℕ)
    → is_own (unit_at units at) ≡ false → unit_at units2 at ≡ Each
    → ((j : ℕ) → j ≢ at → unit_at units2 j ≡ unit_at units j)
    → slots2 ≡ fill slots from (to - from) (common_slot (unit_at units at)) → from ≤ to
    → ((k : ℕ) → k / UNIT ≡ at → k < length slots → (from ≤ k) × (k < to))
    → ((k : ℕ) → from ≤ k → k < to → k / UNIT ≡ at) → shown_units units2 slots2 ≡ shown_units units slots
shown-written units units2 slots slots2 at from to common own others filled order in_it out =
    ext_get_or None (shown_units units2 slots2) (shown_units units slots)
    (omega (arith, length-shown units2 slots2, length-shown units slots, long))
    (λ k less. each k (omega (arith, length-shown units2 slots2, long)))
  where
    long : length slots2 ≡ length slots
    long = ap length filled ∙ length-fill slots from (to - from) (common_slot (unit_at units at))

    each : (k : ℕ) → k < length slots → slot_at (shown_units units2 slots2) k ≡ slot_at (shown_units units slots) k
    each k less = elim (cases_eq (k / UNIT) at) [
      | inl here ↦
          let b = in_it k here less in
          at-own units2 slots2 k (ap (unit_at units2) here ∙ own) (omega (arith, long))
          ∙ ap (λ s. slot_at s k) filled
          ∙ get_or-fill_in slots from (to - from) (common_slot (unit_at units at)) k b.0
          (let u = b.1 in omega arith) less
          ∙ ap (λ j. common_slot (unit_at units j)) (sym here)
          ∙ sym (at-common units slots k (ap (λ j. is_own (unit_at units j)) here ∙ common) less)
      | inr other ↦
          at-shown units2 slots2 k (omega (arith, long))
          ∙ ap (λ u. slot_by u (slot_at slots2 k)) (others (k / UNIT) other)
          ∙ ap (slot_by (unit_at units (k / UNIT))) (ap (λ s. slot_at s k) filled
          ∙ beside-fill slots from (to - from) (common_slot (unit_at units at)) k
          (λ a b. other (out k a (omega arith))))
          ∙ sym (at-shown units slots k less)
    ]

-- a cell of a unit in which each has its own is set
pub shown-set : (units : List Unit) (slots : List (Option Slot)) (a : ℕ) (slot : Option Slot)
    → unit_at units (a / UNIT) ≡ Each → shown_units units (set slots a slot) ≡ set (shown_units units slots) a slot
shown-set units slots a slot own =
    ext_get_or None (shown_units units (set slots a slot)) (set (shown_units units slots) a slot)
    (omega (
      arith,
      length-shown units (set slots a slot),
      length-set slots a slot,
      length-set (shown_units units slots) a slot,
      length-shown units slots,
    ))
    (λ k less. each k (omega (arith, length-shown units (set slots a slot), length-set slots a slot)))
  where
    each : (k : ℕ) → k < length slots → slot_at (shown_units units (set slots a slot)) k
        ≡ slot_at (set (shown_units units slots) a slot) k
    each k less = elim (cases_eq k a) [
      | inl here ↦
          at-own units (set slots a slot) k (ap (λ i. unit_at units (i / UNIT)) here ∙ own)
          (omega (arith, length-set slots a slot))
          ∙ ap (slot_at (set slots a slot)) here ∙ get_or-set_same slots a slot None (omega arith)
          ∙ sym (ap (slot_at (set (shown_units units slots) a slot)) here
          ∙ get_or-set_same (shown_units units slots) a slot None (omega (arith, length-shown units slots)))
      | inr other ↦
          at-shown units (set slots a slot) k (omega (arith, length-set slots a slot))
          ∙ ap (slot_by (unit_at units (k / UNIT))) (get_or-set_other slots a k slot None other)
          ∙ sym (at-shown units slots k less)
          ∙ sym (get_or-set_other (shown_units units slots) a k slot None other)
    ]

-- cells are filled: whole units, and what is left at either end
module _ (units units2 : List Unit) (slots slots1 slots2 : List (Option Slot)) (base low high end : ℕ) (unit : Unit)
    (common : is_own unit ≡ false) (order : base ≤ end) (inside : end ≤ length slots)
    (first : base % UNIT ≢ 0 → unit_at units (base / UNIT) ≡ Each)
    (last : end % UNIT ≢ 0 → unit_at units (end / UNIT) ≡ Each)
    (low_is : low ≡ min ((base + (UNIT - 1)) / UNIT * UNIT) end) (high_is : high ≡ max (end / UNIT * UNIT) low)
    (filled1 : slots1 ≡ fill slots base (low - base) (common_slot unit))
    (filled2 : slots2 ≡ fill slots1 high (end - high) (common_slot unit))
    (owned : IsFilled Each units units2 (low / UNIT) (high / UNIT) unit) where
  long1 : length slots1 ≡ length slots
  long1 = ap length filled1 ∙ length-fill slots base (low - base) (common_slot unit)

  long2 : length slots2 ≡ length slots
  long2 = ap length filled2 ∙ length-fill slots1 high (end - high) (common_slot unit) ∙ long1

  bounds : (base ≤ low) × (low ≤ high) × (high ≤ end)
  bounds = (omega arith, omega arith, omega arith)

  -- a cell beside them
  beside : (k : ℕ) → k < length slots → (base ≤ k → k < end → ⊥) → slot_at (shown_units units2 slots2) k
      ≡ slot_at (fill (shown_units units slots) base (end - base) (common_slot unit)) k
  beside k less out =
      at-shown units2 slots2 k (omega (arith, long2))
      ∙ ap (λ u. slot_by u (slot_at slots2 k)) (owned.others (k / UNIT) (λ a b. out (omega arith) (omega arith)))
      ∙ ap (slot_by (unit_at units (k / UNIT)))
      (ap (λ s. slot_at s k) filled2
      ∙ beside-fill slots1 high (end - high) (common_slot unit) k (λ a b. out (omega arith) (omega arith))
      ∙ ap (λ s. slot_at s k) filled1
      ∙ beside-fill slots base (low - base) (common_slot unit) k (λ a b. out (omega arith) (omega arith)))
      ∙ sym (at-shown units slots k less)
      ∙ sym (beside-fill (shown_units units slots) base (end - base) (common_slot unit) k (λ a b. out a (omega arith)))

  -- one of them, with its slot
  filled-slot : (k : ℕ) → base ≤ k → k < end
      → slot_at (fill (shown_units units slots) base (end - base) (common_slot unit)) k ≡ common_slot unit
  filled-slot k a b = get_or-fill_in (shown_units units slots) base (end - base) (common_slot unit) k a (omega arith)
      (omega (arith, length-shown units slots))

  -- one whose unit is cut
  cut : (k : ℕ) → base ≤ k → k < end → unit_at units (k / UNIT) ≡ Each
      → (low / UNIT ≤ k / UNIT → k / UNIT < high / UNIT → ⊥) → slot_at slots2 k ≡ common_slot unit
      → slot_at (shown_units units2 slots2) k ≡ common_slot unit
  cut k a b own out is = at-own units2 slots2 k (owned.others (k / UNIT) out ∙ own) (omega (arith, long2)) ∙ is

  among : (k : ℕ) → base ≤ k → k < end → slot_at (shown_units units2 slots2) k ≡ common_slot unit
  among k a b = elim (cases_lt k low) [
    | inl before ↦
        cut k a b (ap (unit_at units) (let e : k / UNIT ≡ base / UNIT = omega arith in e) ∙ first (omega arith))
        (λ c d. omega arith)
        (ap (λ s. slot_at s k) filled2
        ∙ beside-fill slots1 high (end - high) (common_slot unit) k (λ c d. omega arith)
        ∙ ap (λ s. slot_at s k) filled1
        ∙ get_or-fill_in slots base (low - base) (common_slot unit) k a (omega arith) (omega arith))
    | inr from ↦ elim (cases_lt k high) [
      | inl whole ↦
          at-shown units2 slots2 k (omega (arith, long2))
          ∙ ap (λ u. slot_by u (slot_at slots2 k)) (owned.each (k / UNIT) (omega arith) (omega arith))
          ∙ by-common unit (slot_at slots2 k) common
      | inr behind ↦
          cut k a b (ap (unit_at units) (let e : k / UNIT ≡ end / UNIT = omega arith in e) ∙ last (omega arith))
          (λ c d. omega arith)
          (ap (λ s. slot_at s k) filled2
          ∙ get_or-fill_in slots1 high (end - high) (common_slot unit) k behind (omega arith)
          (omega (arith, long1)))
    ]
  ]

  pub shown-filled : shown_units units2 slots2 ≡ fill (shown_units units slots) base (end - base) (common_slot unit)
  shown-filled = ext_get_or None (shown_units units2 slots2)
      (fill (shown_units units slots) base (end - base) (common_slot unit))
      (omega (
        arith,
        length-shown units2 slots2,
        long2,
        length-fill (shown_units units slots) base (end - base) (common_slot unit),
        length-shown units slots,
      ))
      (λ k less. each k (omega (arith, length-shown units2 slots2, long2)))
    where
      each : (k : ℕ) → k < length slots → slot_at (shown_units units2 slots2) k
          ≡ slot_at (fill (shown_units units slots) base (end - base) (common_slot unit)) k
      each k less = elim (cases_lt k base) [
        | inl before ↦ beside k less (λ a b. omega arith)
        | inr from ↦ elim (cases_lt k end) [
          | inl upto ↦ among k from upto ∙ sym (filled-slot k from upto)
          | inr behind ↦ beside k less (λ a b. omega arith)
        ]
      ]

-- the bounds of a unit's cells
pub unit-bounds : (n at from to : ℕ) → from ≡ min (at * UNIT) n → to ≡ min (at * UNIT + UNIT) n → (k : ℕ)
    → k / UNIT ≡ at → k < n → (from ≤ k) × (k < to)
unit-bounds n at from to f t k e less = (omega arith, omega arith)

pub unit-beside : (n at from to : ℕ) → from ≡ min (at * UNIT) n → to ≡ min (at * UNIT + UNIT) n → (k : ℕ)
    → from ≤ k → k < to → k / UNIT ≡ at
unit-beside n at from to f t k lo hi = omega arith

-- cells that show the same are as many
pub same-long : (units units2 : List Unit) (slots slots2 : List (Option Slot)) → shown_units units2 slots2
    ≡ shown_units units slots → length slots2 ≡ length slots
same-long units units2 slots slots2 same =
    sym (length-shown units2 slots2) ∙ ap length same ∙ length-shown units slots

-- what a cell of its own shows, where the same was shown before
pub own-there : (units units2 : List Unit) (slots slots2 : List (Option Slot)) (at : ℕ)
    → shown_units units2 slots2 ≡ shown_units units slots → unit_at units2 (at / UNIT) ≡ Each → at < length slots
    → slot_at slots2 at ≡ slot_at (shown_units units slots) at
own-there units units2 slots slots2 at same own less =
    sym (at-own units2 slots2 at own (omega (arith, same-long units units2 slots slots2 same)))
    ∙ ap (λ s. slot_at s at) same

-- what was read of a unit
pub own-read : (units items : List Unit) (j : ℕ) (unit : Unit) (b : Bool) → items ≡ units → unit ≡ unit_at items j
    → b ≡ is_own unit → b ≡ true → unit_at units j ≡ Each
own-read units items j unit b same read is yes_so =
    own-each (unit_at units j) (ap (λ us. is_own (unit_at us j)) (sym same) ∙ ap is_own (sym read) ∙ sym is ∙ yes_so)

-- cells after a fill are as many
pub filled-long : (units units2 : List Unit) (slots slots2 : List (Option Slot)) (base n : ℕ) (slot : Option Slot)
    → shown_units units2 slots2 ≡ fill (shown_units units slots) base n slot → length slots2 ≡ length slots
filled-long units units2 slots slots2 base n slot same =
    sym (length-shown units2 slots2) ∙ ap length same ∙ length-fill (shown_units units slots) base n slot
    ∙ length-shown units slots

pub set-long : (units units2 : List Unit) (slots slots2 : List (Option Slot)) (a : ℕ) (slot : Option Slot)
    → shown_units units2 slots2 ≡ set (shown_units units slots) a slot → length slots2 ≡ length slots
set-long units units2 slots slots2 a slot same =
    sym (length-shown units2 slots2) ∙ ap length same ∙ length-set (shown_units units slots) a slot
    ∙ length-shown units slots
