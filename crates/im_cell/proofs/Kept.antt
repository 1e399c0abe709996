-- The slots of cells, by what is kept for each.
use Rattle.std.proofs.Common.{◌≡◌, ℕ, zero, suc, ◌+◌, ◌-◌, ◌<◌, ◌≤◌, Bool, List, [], ◌∷◌, length, get_or, set, IsSome}
use Rattle.std.proofs.Common.{Some, None, Option, sym, refl, ap, ◌∙◌, subst, inl, inr, arith, ext_get_or}
use Rattle.std.proofs.lemmas.{Bool.cases_lt, List.get_or_past}
use Rattle.im_types.specs.Types.{Kind, I, M, Cell, CellEmpty as Empty, CellWaiting as Waiting, CellFull as Full}
use Rattle.im_types.specs.Types.{CellClashed as Clashed, fill}
use Rattle.im_laws.proofs.BlockLemmas.{get_or-fill_in, length-fill}
use Rattle.im_laws.proofs.{PlaceLemmas.get_or-fill, Tests.some_none}
use Rattle.im_cell.specs.Cells.{block_by_extent, IsFilled, slots_in, state_for, state_slot, tag_kind, value_of}
use Rattle.im_cell.specs.declared.{slots.Slot.Slot, state.Extent.Extent, state.State.State, state.TheConstants.NOWHERE}
use Rattle.im_cell.specs.declared.state.State.TheVariants.{ClashedI, ClashedM, EmptyI, EmptyM, Free, FullI, FullM}
use Rattle.im_cell.specs.declared.state.State.TheVariants.{WaitingI, WaitingM}
use Rattle.im_cell.specs.{Slots.new_slot, Slots.slot_at, Slots.with_cell, Table.base_in}

pub length-slots : (states : List State) (values : List ℕ) (extents : List Extent) → length values ≡ length states
    → length extents ≡ length states → length (slots_in states values extents) ≡ length states
unfolding slots_in
length-slots [] values extents ev ex = refl
length-slots (s ∷ states) [] extents ev ex = absurd (omega arith)
length-slots (s ∷ states) (v ∷ values) [] ev ex = absurd (omega arith)
length-slots (s ∷ states) (v ∷ values) (x ∷ extents) ev ex =
    ap suc (length-slots states values extents (omega arith) (omega arith))

-- the slot of a cell
pub at-slots : (states : List State) (values : List ℕ) (extents : List Extent) (k : ℕ) (ds : State) (dv : ℕ)
    (dx : Extent) → length values ≡ length states → length extents ≡ length states → k < length states
    → slot_at (slots_in states values extents) k ≡ state_slot (get_or states k ds) (get_or values k dv)
    (get_or extents k dx)
unfolding slots_in
at-slots [] values extents k ds dv dx ev ex less = absurd (omega arith)
at-slots (s ∷ states) [] extents k ds dv dx ev ex less = absurd (omega arith)
at-slots (s ∷ states) (v ∷ values) [] k ds dv dx ev ex less = absurd (omega arith)
at-slots (s ∷ states) (v ∷ values) (x ∷ extents) zero ds dv dx ev ex less = refl
at-slots (s ∷ states) (v ∷ values) (x ∷ extents) (suc k) ds dv dx ev ex less =
    at-slots states values extents k ds dv dx (omega arith) (omega arith) (omega arith)

-- another state and value of a cell
pub set-slots : (states : List State) (values : List ℕ) (extents : List Extent) (k : ℕ) (s : State) (v : ℕ)
    (dx : Extent) (slot : Option Slot) → length values ≡ length states → length extents ≡ length states
    → k < length states → state_slot s v (get_or extents k dx) ≡ slot
    → slots_in (set states k s) (set values k v) extents ≡ set (slots_in states values extents) k slot
unfolding slots_in
set-slots [] values extents k s v dx slot ev ex less is = absurd (omega arith)
set-slots (t ∷ states) [] extents k s v dx slot ev ex less is = absurd (omega arith)
set-slots (t ∷ states) (w ∷ values) [] k s v dx slot ev ex less is = absurd (omega arith)
set-slots (t ∷ states) (w ∷ values) (x ∷ extents) zero s v dx slot ev ex less is =
    ap (λ z. z ∷ slots_in states values extents) is
set-slots (t ∷ states) (w ∷ values) (x ∷ extents) (suc k) s v dx slot ev ex less is =
    ap (λ zs. state_slot t w x ∷ zs)
    (set-slots states values extents k s v dx slot (omega arith) (omega arith) (omega arith) is)

-- a state that is made for a kind and a cell
pub state-made : (kind : Kind) (cell : Cell) (x : Extent) → state_slot (state_for kind cell) (value_of cell) x
    ≡ new_slot (block_by_extent x kind) cell
state-made I Empty x = refl
state-made I Waiting x = refl
state-made I (Full v) x = refl
state-made I (Clashed v) x = refl
state-made M Empty x = refl
state-made M Waiting x = refl
state-made M (Full v) x = refl
state-made M (Clashed v) x = refl

-- what is nothing isn't something
pub never : (o : Option Slot) → o ≡ None → IsSome o → ⊥
never None e s = cc
never (Some x) e s = some_none x e

-- the state of another cell in the same block
pub state-with : (s : State) (v : ℕ) (x : Extent) (cell : Cell) → IsSome (state_slot s v x)
    → state_slot (state_for (tag_kind s) cell) (value_of cell) x ≡ with_cell cell (state_slot s v x)
state-with Free v x cell some = absurd (never None refl some)
state-with EmptyI v x cell some = state-made I cell x
state-with WaitingI v x cell some = state-made I cell x
state-with FullI v x cell some = state-made I cell x
state-with ClashedI v x cell some = state-made I cell x
state-with EmptyM v x cell some = state-made M cell x
state-with WaitingM v x cell some = state-made M cell x
state-with FullM v x cell some = state-made M cell x
state-with ClashedM v x cell some = state-made M cell x

-- what was read of a cell is its slot
pub at-read : (states : List State) (values : List ℕ) (extents : List Extent) (k : ℕ) (s : State) (v : ℕ) (x : Extent)
    → length values ≡ length states → length extents ≡ length states → k < length states → s ≡ get_or states k s
    → v ≡ get_or values k v → x ≡ get_or extents k x → state_slot s v x ≡ slot_at (slots_in states values extents) k
at-read states values extents k s v x ev ex less es is_v is_x =
    ap (λ t. state_slot t v x) es ∙ ap (λ w. state_slot (get_or states k s) w x) is_v
    ∙ ap (state_slot (get_or states k s) (get_or values k v)) is_x
    ∙ sym (at-slots states values extents k s v x ev ex less)

-- the number of the cells that were read is that of a model
pub long-slots : (states : List State) (values : List ℕ) (extents : List Extent) (now : List (Option Slot))
    → length values ≡ length states → length extents ≡ length states → slots_in states values extents ≡ now
    → length states ≡ length now
long-slots states values extents now ev ex is = sym (length-slots states values extents ev ex) ∙ ap length is

-- a cell in a block is among them
pub some-inside : (slots : List (Option Slot)) (k : ℕ) → IsSome (slot_at slots k) → k < length slots
some-inside slots k some = elim (cases_lt k (length slots)) [
  | inl less ↦ less
  | inr past ↦ absurd (never (slot_at slots k) (get_or_past slots k None past) some)
]

-- another state is put into a cell in a block
pub set-read : (states : List State) (values : List ℕ) (extents : List Extent) (now : List (Option Slot)) (k : ℕ)
    (state s : State) (v : ℕ) (cell : Cell) → length values ≡ length states → length extents ≡ length states
    → slots_in states values extents ≡ now → k < length states → state ≡ get_or states k state
    → IsSome (slot_at now k) → s ≡ state_for (tag_kind state) cell → v ≡ value_of cell
    → slots_in (set states k s) (set values k v) extents ≡ set now k (with_cell cell (slot_at now k))
set-read states values extents now k state s v cell ev ex view less read some is_s is_v =
    let there = at-slots states values extents k state 0 NOWHERE ev ex less in
    let x : Extent = get_or extents k NOWHERE in
    let was : slot_at (slots_in states values extents) k ≡ state_slot state (get_or values k 0) x =
    there ∙ ap (λ t. state_slot t (get_or values k 0) x) (sym read) in
    set-slots states values extents k s v NOWHERE (with_cell cell (slot_at (slots_in states values extents) k)) ev ex
    less
    (ap (λ t. state_slot t v x) is_s ∙ ap (λ w. state_slot (state_for (tag_kind state) cell) w x) is_v
    ∙ state-with state (get_or values k 0) x cell
    (subst IsSome (ap (λ s. slot_at s k) (sym view) ∙ was) some)
    ∙ ap (with_cell cell) (sym was))
    ∙ ap (λ s. set s k (with_cell cell (slot_at s k))) view

-- the same, of a test that its state decides
pub tested-read : (test : Option Slot → Bool) (states : List State) (values : List ℕ) (extents : List Extent)
    (now : List (Option Slot)) (k : ℕ) (state : State) (b : Bool) → length values ≡ length states
    → length extents ≡ length states → slots_in states values extents ≡ now → k < length states
    → state ≡ get_or states k state → ((v : ℕ) (x : Extent) → b ≡ test (state_slot state v x))
    → b ≡ test (slot_at now k)
tested-read test states values extents now k state b ev ex view less read is =
    is (get_or values k 0) (get_or extents k NOWHERE)
    ∙ ap (λ t. test (state_slot t (get_or values k 0) (get_or extents k NOWHERE))) read
    ∙ ap test (sym (at-slots states values extents k state 0 NOWHERE ev ex less) ∙ ap (λ s. slot_at s k) view)

-- the base of a cell's block is in its extent
base-of : (s : State) (v : ℕ) (x : Extent) → IsSome (state_slot s v x) → x.base ≡ base_in (state_slot s v x)
base-of Free v x some = absurd (never None refl some)
base-of EmptyI v x some = refl
base-of WaitingI v x some = refl
base-of FullI v x some = refl
base-of ClashedI v x some = refl
base-of EmptyM v x some = refl
base-of WaitingM v x some = refl
base-of FullM v x some = refl
base-of ClashedM v x some = refl

pub base-read : (states : List State) (values : List ℕ) (extents : List Extent) (now : List (Option Slot)) (k : ℕ)
    (x : Extent) → length values ≡ length states → length extents ≡ length states
    → slots_in states values extents ≡ now → k < length states → x ≡ get_or extents k x
    → IsSome (slot_at now k) → x.base ≡ base_in (slot_at now k)
base-read states values extents now k x ev ex view less read some =
    let there : slot_at now k ≡ state_slot (get_or states k Free) (get_or values k 0) x =
    ap (λ s. slot_at s k) (sym view) ∙ at-slots states values extents k Free 0 x ev ex less
    ∙ ap (state_slot (get_or states k Free) (get_or values k 0)) (sym read) in
    base-of (get_or states k Free) (get_or values k 0) x (subst IsSome there some) ∙ ap base_in (sym there)

-- a cell beside those that are filled
pub beside-fill : (slots : List (Option Slot)) (base n : ℕ) (slot : Option Slot) (k : ℕ)
    → (base ≤ k → k < base + n → ⊥) → slot_at (fill slots base n slot) k ≡ slot_at slots k
beside-fill slots base n slot k out = elim (get_or-fill slots base n slot k) [
  | inl e ↦ e
  | inr h ↦ absurd (out h.0 h.1)
]

-- cells from one on, up to another one, are made the same
module _ (states states2 : List State) (values : List ℕ) (extents extents2 : List Extent) (from to : ℕ) (s : State)
    (x : Extent) (slot : Option Slot)
    (ev : length values ≡ length states) (ex : length extents ≡ length states)
    (ls : length states2 ≡ length states) (lx : length extents2 ≡ length extents)
    (order : from ≤ to) (inside : to ≤ length states)
    (fs : IsFilled Free states states2 from to s) (fx : IsFilled NOWHERE extents extents2 from to x)
    (is : (v : ℕ) → state_slot s v x ≡ slot) where
  at-filled : (k : ℕ) → k < length states → slot_at (slots_in states2 values extents2) k
      ≡ slot_at (fill (slots_in states values extents) from (to - from) slot) k
  at-filled k less = elim (cases_lt k from) [
    | inl low ↦ beside k less (λ a b. omega arith)
    | inr high ↦ elim (cases_lt k to) [
      | inl in_it ↦
          at-slots states2 values extents2 k Free 0 NOWHERE (omega arith) (omega arith) (omega arith)
          ∙ ap (λ t. state_slot t (get_or values k 0) (get_or extents2 k NOWHERE)) (fs.each k high in_it)
          ∙ ap (state_slot s (get_or values k 0)) (fx.each k high in_it)
          ∙ is (get_or values k 0)
          ∙ sym (get_or-fill_in (slots_in states values extents) from (to - from) slot k high (omega arith)
          (omega (arith, length-slots states values extents ev ex)))
      | inr behind ↦ beside k less (λ a b. omega arith)
    ]
  ]
    where
      beside : (k : ℕ) → k < length states → (from ≤ k → k < to → ⊥) → slot_at (slots_in states2 values extents2) k
          ≡ slot_at (fill (slots_in states values extents) from (to - from) slot) k
      beside k less out =
          at-slots states2 values extents2 k Free 0 NOWHERE (omega arith) (omega arith) (omega arith)
          ∙ ap (λ t. state_slot t (get_or values k 0) (get_or extents2 k NOWHERE)) (fs.others k out)
          ∙ ap (state_slot (get_or states k Free) (get_or values k 0)) (fx.others k out)
          ∙ sym (at-slots states values extents k Free 0 NOWHERE ev ex less)
          ∙ sym (beside-fill (slots_in states values extents) from (to - from) slot k (λ a b. out a (omega arith)))

  pub fill-slots : slots_in states2 values extents2 ≡ fill (slots_in states values extents) from (to - from) slot
  fill-slots = ext_get_or None (slots_in states2 values extents2)
      (fill (slots_in states values extents) from (to - from) slot)
      (omega (
        arith,
        length-slots states2 values extents2 (omega arith) (omega arith),
        length-fill (slots_in states values extents) from (to - from) slot,
        length-slots states values extents ev ex,
      ))
      (λ k less. at-filled k
      (omega (arith, length-slots states2 values extents2 (omega arith) (omega arith))))
