-- What a table keeps, as its cells change.
use Rattle.std.proofs.Common.{◌≡◌, ℕ, suc, ◌+◌, ◌-◌, ◌<◌, ◌≤◌, Bool, true, false, ◌≢◌, List, length, set, is_none}
use Rattle.std.proofs.Common.{IsSome, Some, None, Option, sym, refl, ap, ◌∙◌, subst, inl, inr, arith, length-set}
use Rattle.std.proofs.Common.{get_or-set_other, get_or-set_same, rules}
use Rattle.std.proofs.lemmas.{Bool.cases_eq, Bool.cases_lt, List.get_or_past}
use Rattle.{im_types.specs.Types.Block, im_types.specs.Types.Cell, im_holes.specs.Holes.holder_at}
use Rattle.im_laws.proofs.Tests.{some_none, some_same, true_false}
use Rattle.im_cell.proofs.{Blocks.HasBlocks-set, Counted.count-few, Counted.count-more, Counted.count-same}
use Rattle.im_cell.specs.declared.slots.Slot.{Slot}
use Rattle.im_cell.specs.Slots.{block_in, cell_waits, HoldsBlocks, is_waiting_slot, new_slot, slot_at, slot_block}
use Rattle.im_cell.specs.Slots.{with_cell}
use Rattle.im_cell.specs.Table.{base_in, CanMove, count_from, HasCounts, IsTable, moved, waits_at}

-- of a cell that is free in the one and not in the other
pub none-some : {X : Type 0} (o : Option X) → is_none o ≡ false → IsSome o
none-some None e = absurd (true_false e)
none-some (Some x) e = search rules

pub none-is : {X : Type 0} (o : Option X) → is_none o ≡ true → o ≡ None
none-is None e = refl
none-is (Some x) e = absurd (true_false (sym e))

pub some-held : {X : Type 0} (o : Option X) → IsSome o → is_none o ≡ false
some-held None s = absurd (cc)
some-held (Some x) s = refl

-- a block's first cell is its own, and so is each of its cells
module _ (slots : List (Option Slot)) (blocks : HoldsBlocks slots) where
  pub at-base : (k : ℕ) (b : Block) → slot_block slots k ≡ Some b → slot_block slots b.base ≡ Some b
  at-base k b is = let w = blocks.within k b is in
      blocks.whole k b is b.base (omega arith) (omega arith)

  -- two blocks that share a cell are the same
  pub one-block : (a c x : ℕ) (b d : Block) → slot_block slots a ≡ Some b → slot_block slots c ≡ Some d → b.base ≤ x → x
      < b.base + b.length → d.base ≤ x → x < d.base + d.length → b ≡ d
  one-block a c x b d isb isd lb hb ld hd = some_same b d
      (sym (blocks.whole a b isb x lb hb) ∙ blocks.whole c d isd x ld hd)

  -- the same of two with one base
  pub same-base : (a c : ℕ) (b d : Block) → slot_block slots a ≡ Some b → slot_block slots c ≡ Some d → b.base ≡ d.base
      → b ≡ d
  same-base a c b d isb isd e = some_same b d
      (sym (at-base a b isb) ∙ ap (slot_block slots) e ∙ at-base c d isd)

-- the counts, where neither the blocks nor who waits changed
pub counts-same : (slots new : List (Option Slot)) (f g : ℕ → Bool) (holes : List (Option ℕ))
    → ((k : ℕ) → slot_block new k ≡ slot_block slots k) → ((k : ℕ) → f k ≡ g k) → HasCounts slots f holes
    → HasCounts new g holes
counts-same slots new f g holes same alike c = λ k block is.
    c k block (sym (same k) ∙ is) ∙ ap Some (count-same f g block.length block.base (λ i lo hi. alike i))

-- the counts, where one cell began to be waited for, or no longer is
pub counts-moved : (slots : List (Option Slot)) (f g : ℕ → Bool) (holes : List (Option ℕ)) (a : ℕ) (b : Block) (m : ℕ)
    → HoldsBlocks slots → slot_block slots a ≡ Some b → length slots ≤ length holes
    → ((k : ℕ) → k ≢ a → f k ≡ g k) → m ≡ count_from g b.length b.base → HasCounts slots f holes
    → HasCounts slots g (set holes b.base (Some m))
counts-moved slots f g holes a b m blocks here long others is c = λ k block at. elim (cases_eq block.base b.base) [
  | inl same ↦
      let w = blocks.within a b here in
      let mine : b ≡ block = same-base slots blocks a k b block here at (sym same) in
      ap (holder_at (set holes b.base (Some m))) same ∙ get_or-set_same holes b.base (Some m) None (omega arith)
      ∙ ap Some is ∙ ap (λ (d : Block). Some (count_from g d.length d.base)) mine
  | inr other ↦
      get_or-set_other holes b.base block.base (Some m) None other ∙ c k block at
      ∙ ap Some (count-same f g block.length block.base (λ i lo hi. others i (λ e.
      let w = blocks.within a b here in
      other (ap (λ (d : Block). d.base) (one-block slots blocks k a i block b at here lo hi (omega arith)
      (omega arith))))))
]

module _ (slots : List (Option Slot)) (a : ℕ) (slot : Slot) (cell : Cell) (at : slot_at slots a ≡ Some slot) where
  within : a < length slots
  within = elim (cases_lt a (length slots)) [
    | inl less ↦ less
    | inr past ↦ absurd (some_none slot (sym at ∙ get_or_past slots a None past))
  ]

  abbrev new : List (Option Slot)
  new = set slots a (new_slot slot.block cell)

  at-new : slot_at new a ≡ new_slot slot.block cell
  at-new = get_or-set_same slots a (new_slot slot.block cell) None within

  beside-new : (k : ℕ) → k ≢ a → slot_at new k ≡ slot_at slots k
  beside-new k ne = get_or-set_other slots a k (new_slot slot.block cell) None ne

  blocks-new : (k : ℕ) → slot_block new k ≡ slot_block slots k
  blocks-new k = elim (cases_eq k a) [
    | inl e ↦ ap (slot_block new) e ∙ ap block_in at-new ∙ sym (ap block_in at) ∙ sym (ap (slot_block slots) e)
    | inr ne ↦ ap block_in (beside-new k ne)
  ]

  -- what of a table stays, whoever waits
  pub IsTable-by : (holes new_holes : List (Option ℕ)) → IsTable slots holes → length new_holes ≡ length holes
      → ((k : ℕ) → is_none (holder_at new_holes k) ≡ is_none (holder_at holes k))
      → HasCounts new (waits_at new) new_holes → IsTable new new_holes
  IsTable-by holes new_holes t long free waits = record {
    count = omega (arith, length-set slots a (new_slot slot.block cell), t.count);
    few = omega (arith, length-set slots a (new_slot slot.block cell), t.few);
    blocks = HasBlocks-set slots a slot cell at t.blocks;
    free = λ k. free k ∙ t.free k ∙ elim (cases_eq k a) [
      | inl e ↦ ap (λ i. is_none (slot_at slots i)) e ∙ ap is_none at ∙ sym (ap is_none at-new)
          ∙ sym (ap (λ i. is_none (slot_at new i)) e)
      | inr ne ↦ ap is_none (sym (beside-new k ne))
    ];
    waits = waits;
  }

  -- it is waited for if it was
  pub IsTable-kept : (holes : List (Option ℕ)) → IsTable slots holes
      → cell_waits cell ≡ cell_waits slot.cell → IsTable new holes
  IsTable-kept holes t same = IsTable-by holes holes t refl (λ k. refl)
      (counts-same slots new (waits_at slots) (waits_at new) holes blocks-new (λ k. elim (cases_eq k a) [
        | inl e ↦ ap (waits_at slots) e ∙ ap is_waiting_slot at ∙ sym same ∙ sym (ap is_waiting_slot at-new)
            ∙ sym (ap (waits_at new) e)
        | inr ne ↦ ap is_waiting_slot (sym (beside-new k ne))
      ]) t.waits)

  -- it is waited for where it wasn't, or the other way round
  module _ (holes : List (Option ℕ)) (t : IsTable slots holes) (more : Bool) (now : cell_waits cell ≡ more)
      (apart : cell_waits slot.cell ≡ more → ⊥) where
    here : slot_block slots a ≡ Some slot.block
    here = ap block_in at

    abbrev before_count : ℕ
    before_count = count_from (waits_at slots) slot.block.length slot.block.base

    abbrev after_count : ℕ
    after_count = count_from (waits_at new) slot.block.length slot.block.base

    was_on : waits_at slots a ≡ cell_waits slot.cell
    was_on = ap is_waiting_slot at

    is_on : waits_at new a ≡ more
    is_on = ap is_waiting_slot at-new ∙ now

    others : (k : ℕ) → k ≢ a → waits_at slots k ≡ waits_at new k
    others k ne = ap is_waiting_slot (sym (beside-new k ne))

    pub number-was : holder_at holes slot.block.base ≡ Some before_count
    number-was = t.waits a slot.block here

    numbers : (b : Bool) → cell_waits slot.cell ≡ b → (c : Bool) → more ≡ c
        → (after_count ≡ moved more before_count) × CanMove more before_count
    numbers true e true f = absurd (apart (e ∙ sym f))
    numbers false e false f = absurd (apart (e ∙ sym f))
    numbers false e true f =
        let w = t.blocks.within a slot.block here in
        let one : after_count ≡ suc before_count = count-more (waits_at slots) (waits_at new) slot.block.length
        slot.block.base a (omega arith)
        (omega arith) (was_on ∙ e) (is_on ∙ f) others in
        let few = count-few (waits_at new) slot.block.length slot.block.base in (
          (let g : after_count ≡ before_count + 1 = omega arith in g) ∙ sym (ap (λ b. moved b before_count) f),
          ((λ e. omega (arith, t.few)), (λ e. absurd (true_false (sym f ∙ e)))),
        )
    numbers true e false f =
        let w = t.blocks.within a slot.block here in
        let one : before_count ≡ suc after_count = count-more (waits_at new) (waits_at slots) slot.block.length
        slot.block.base a (omega arith)
        (omega arith) (is_on ∙ f) (was_on ∙ e) (λ k ne. sym (others k ne)) in (
          (let g : after_count ≡ before_count - 1 = omega arith in g) ∙ sym (ap (λ b. moved b before_count) f),
          ((λ e. absurd (true_false (sym e ∙ f))), (λ e. omega arith)),
        )

    pub can-move : CanMove more before_count
    can-move = (numbers (cell_waits slot.cell) refl more refl).1

    pub IsTable-moved : IsTable new (set holes slot.block.base (Some (moved more before_count)))
    IsTable-moved = IsTable-by holes (set holes slot.block.base (Some (moved more before_count))) t
        (length-set holes slot.block.base (Some (moved more before_count)))
        (λ k. elim (cases_eq k slot.block.base) [
          | inl e ↦
              ap (λ i. is_none (holder_at (set holes slot.block.base (Some (moved more before_count))) i)) e
              ∙ ap is_none (get_or-set_same holes slot.block.base (Some (moved more before_count)) None
              (let w = t.blocks.within a slot.block here in omega (arith, t.count)))
              ∙ sym (ap is_none number-was) ∙ sym (ap (λ i. is_none (holder_at holes i)) e)
          | inr ne ↦ ap is_none (get_or-set_other holes slot.block.base k (Some (moved more before_count)) None ne)
        ])
        (counts-same slots new (waits_at new) (waits_at new)
        (set holes slot.block.base (Some (moved more before_count)))
        blocks-new (λ k. refl)
        (counts-moved slots (waits_at slots) (waits_at new) holes a slot.block (moved more before_count) t.blocks here
        (omega (arith, t.count)) others (sym (numbers (cell_waits slot.cell) refl more refl).0) t.waits))

-- a slot that is there
pub found-slot : (o : Option Slot) → IsSome o → (s : Slot) × (o ≡ Some s)
found-slot None e = absurd (cc)
found-slot (Some s) e = (s, refl)

module _ (slots : List (Option Slot)) (holes : List (Option ℕ)) (a : ℕ) (cell : Cell) (t : IsTable slots holes)
    (some : IsSome (slot_at slots a)) (waited : Bool) (was_waited : waited ≡ is_waiting_slot (slot_at slots a)) where
  abbrev set_one : List (Option Slot)
  set_one = set slots a (with_cell cell (slot_at slots a))

  -- it is waited for if it was
  pub set-kept : cell_waits cell ≡ waited → IsTable set_one holes
  set-kept same =
      let f = found-slot (slot_at slots a) some in
      subst (λ o. IsTable (set slots a (with_cell cell o)) holes) (sym f.1)
      (IsTable-kept slots a f.0 cell f.1 holes t (same ∙ was_waited ∙ ap is_waiting_slot f.1))

  -- the base of its block
  base-set : (s : Slot) → slot_at slots a ≡ Some s → base_in (slot_at set_one a) ≡ s.block.base
  base-set s e = ap base_in (ap (λ o. slot_at (set slots a (with_cell cell o)) a) e
      ∙ get_or-set_same slots a (new_slot s.block cell) None
      (elim (cases_lt a (length slots)) [
        | inl less ↦ less
        | inr past ↦ absurd (some_none s (sym e ∙ get_or_past slots a None past))
      ]))

  module _ (more : Bool) (now_waits : more ≡ cell_waits cell) (differs : waited ≡ more → ⊥) where
    pub held-set : IsSome (slot_at set_one a)
    held-set =
        let f = found-slot (slot_at slots a) some in
        subst IsSome (sym (ap (λ o. slot_at (set slots a (with_cell cell o)) a) f.1
        ∙ get_or-set_same slots a (new_slot (f.0).block cell) None
        (elim (cases_lt a (length slots)) [
          | inl less ↦ less
          | inr past ↦ absurd (some_none f.0 (sym f.1 ∙ get_or_past slots a None past))
        ]))) (some-slot (record { block = (f.0).block; cell = cell }))
      where
        some-slot : (s : Slot) → IsSome (Some s)
        some-slot s = search rules

    -- its block's number can move
    pub number-set : (n : ℕ) × (holder_at holes (base_in (slot_at set_one a)) ≡ Some n) × CanMove more n
    number-set =
        let f = found-slot (slot_at slots a) some in
        let apart : cell_waits (f.0).cell ≡ more → ⊥ = λ e. differs (was_waited ∙ ap is_waiting_slot f.1 ∙ e) in (
          count_from (waits_at slots) (f.0).block.length (f.0).block.base,
          ap (holder_at holes) (base-set f.0 f.1)
              ∙ number-was slots a f.0 cell f.1 holes t more (sym now_waits) apart,
          can-move slots a f.0 cell f.1 holes t more (sym now_waits) apart,
        )

    -- and does
    pub set-moved : (moved_holes : List (Option ℕ))
        → ((n : ℕ) → holder_at holes (base_in (slot_at set_one a)) ≡ Some n
        → moved_holes ≡ set holes (base_in (slot_at set_one a)) (Some (moved more n)))
        → IsTable set_one moved_holes
    unfolding number-set found-slot
    set-moved moved_holes is_moved =
        let f = found-slot (slot_at slots a) some in
        let apart : cell_waits (f.0).cell ≡ more → ⊥ = λ e. differs (was_waited ∙ ap is_waiting_slot f.1 ∙ e) in
        subst (λ h. IsTable set_one h)
        (sym (is_moved number-set.0 number-set.1
        ∙ ap (λ b. set holes b (Some (moved more number-set.0))) (base-set f.0 f.1)))
        (subst (λ o. IsTable (set slots a (with_cell cell o)) (set holes (f.0).block.base
        (Some (moved more number-set.0)))) (sym f.1)
        (IsTable-moved slots a f.0 cell f.1 holes t more (sym now_waits) apart))
