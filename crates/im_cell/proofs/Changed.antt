-- What a table keeps where a block is made, given back or emptied.
use Rattle.std.proofs.Common.{◌≡◌, ℕ, ◌+◌, ◌<◌, ◌≤◌, true, false, List, length, take, drop, is_none, Some, None, Option}
use Rattle.std.proofs.Common.{sym, refl, ap, ◌∙◌, inl, inr, arith}
use Rattle.std.{proofs.lemmas.Bool.cases_lt, specs.List.list_any}
use Rattle.im_types.specs.Types.{Kind, Block, CellEmpty as Empty, place, fill}
use Rattle.im_laws.proofs.BlockLemmas.{get_or-fill_in, length-fill, place-fits}
use Rattle.im_laws.proofs.PlaceLemmas.{place-free}
use Rattle.im_laws.proofs.Tests.{some_none, some_same, true_false, true_or_false}
use Rattle.im_holes.{proofs.Giving.fill-out, specs.Holes.AreHeld, specs.Holes.AreTakenFrom, specs.Holes.holder_at}
use Rattle.im_cell.proofs.Blocks.{HasBlocks-emptied, HasBlocks-placed, HasBlocks-released}
use Rattle.im_cell.proofs.Counted.{count-none, count-same, none-counted, none-within, place-like, some-within}
use Rattle.im_cell.proofs.{Kept.beside-fill, Tables.counts-same, Tables.none-some, Tables.one-block, Tables.some-held}
use Rattle.im_cell.specs.{declared.slots.Slot.Slot, Table.count_from, Table.IsTable, Table.waits_at}
use Rattle.im_cell.specs.Slots.{block_in, empty_slot, HoldsBlocks, is_waiting_slot, new_slot, slot_at, slot_block}

-- both have the same place for a block
pub place-table : (slots : List (Option Slot)) (holes : List (Option ℕ)) (n : ℕ) → IsTable slots holes
    → place n holes ≡ place n slots
place-table slots holes n t = place-like n holes slots t.count t.free

-- the cells of a block are held
pub held-block : (slots : List (Option Slot)) (holes : List (Option ℕ)) (b : Block) → IsTable slots holes
    → slot_block slots b.base ≡ Some b → AreHeld holes b.base b.length
held-block slots holes b t here = λ k lo hi. none-some (holder_at holes k)
    (t.free k ∙ block-some (slot_at slots k) b (t.blocks.whole b.base b here k lo hi))
  where
    block-some : (o : Option Slot) (b : Block) → block_in o ≡ Some b → is_none o ≡ false
    block-some None b e = absurd (some_none b (sym e))
    block-some (Some s) b e = refl

-- where nobody waits in a block, nobody waits for one of its cells
pub quiet-at : (slots : List (Option Slot)) (b : Block) → HoldsBlocks slots → slot_block slots b.base ≡ Some b
    → list_any is_waiting_slot (take b.length (drop b.base slots)) ≡ false → (k : ℕ) → b.base ≤ k
    → k < b.base + b.length
    → waits_at slots k ≡ false
quiet-at slots b blocks here none k lo hi = elim (true_or_false (waits_at slots k)) [
  | inl yes_so ↦ absurd (true_false
      (sym (some-within is_waiting_slot b.base b.length slots k lo hi
      (let w = blocks.within b.base b here in omega arith) yes_so) ∙ none))
  | inr not_so ↦ not_so
]

-- whether a cell of a block is waited for, by its number
module _ (slots : List (Option Slot)) (holes : List (Option ℕ)) (b : Block) (n : ℕ) (t : IsTable slots holes)
    (here : slot_block slots b.base ≡ Some b) (number : holder_at holes b.base ≡ Some n) where
  count-is : n ≡ count_from (waits_at slots) b.length b.base
  count-is = some-number n (count_from (waits_at slots) b.length b.base) (sym number ∙ t.waits b.base b here)
    where
      some-number : (i j : ℕ) → Some i ≡ Some j → i ≡ j
      some-number i j e = cc

  pub quiet-number : n ≡ 0 → list_any is_waiting_slot (take b.length (drop b.base slots)) ≡ false
  quiet-number zero_is = none-within is_waiting_slot b.base b.length slots
      (λ k lo hi. none-counted (waits_at slots) b.length b.base (sym count-is ∙ zero_is) k lo hi)

  pub loud-number : 0 < n → list_any is_waiting_slot (take b.length (drop b.base slots)) ≡ true
  loud-number some = elim (true_or_false (list_any is_waiting_slot (take b.length (drop b.base slots)))) [
    | inl yes_so ↦ yes_so
    | inr not_so ↦ let z = count-none (waits_at slots) b.length b.base (quiet-at slots b t.blocks here not_so) in
        absurd (omega (arith, count-is))
  ]

-- a block is made
module _ (slots : List (Option Slot)) (holes taken : List (Option ℕ)) (base n : ℕ) (kind : Kind)
    (t : IsTable slots holes) (some : 0 < n) (found : place n slots ≡ Some base)
    (took : AreTakenFrom holes taken base n) where
  abbrev made : List (Option Slot)
  made = fill slots base n (empty_slot base n kind)

  made-in : (k : ℕ) → base ≤ k → k < base + n → slot_at made k ≡ empty_slot base n kind
  made-in k lo hi = get_or-fill_in slots base n (empty_slot base n kind) k lo hi
      (let f = place-fits n slots base found in omega arith)

  made-out : (k : ℕ) → (base ≤ k → k < base + n → ⊥) → slot_at made k ≡ slot_at slots k
  made-out k out = beside-fill slots base n (empty_slot base n kind) k out

  -- no block lies there
  not-there : (k a : ℕ) (b : Block) → slot_block slots a ≡ Some b → b.base ≤ k → k < b.base + b.length → base ≤ k
      → k < base + n → ⊥
  not-there k a b is lb hb lo hi = some_none b
      (sym (t.blocks.whole a b is k lb hb) ∙ ap block_in (place-free n slots base found k lo hi))

  counts-made : (k : ℕ) (b : Block) → slot_block made k ≡ Some b
      → holder_at taken b.base ≡ Some (count_from (waits_at made) b.length b.base)
  counts-made k b is = elim (cases_lt k base) [
    | inl low ↦ old (λ lo hi. omega arith)
    | inr lo ↦ elim (cases_lt k (base + n)) [
      | inr high ↦ old (λ lo hi. omega arith)
      | inl hi ↦
          let mine = some_same (record { base = base; length = n; kind = kind }) b
          (sym (ap block_in (made-in k lo hi)) ∙ is) in
          let p : base ≡ b.base = ap (λ (b : Block). b.base) mine in
          let q : n ≡ b.length = ap (λ (b : Block). b.length) mine in
          ap (holder_at taken) (sym p) ∙ took.first
          ∙ ap Some (sym (count-none (waits_at made) b.length b.base
          (λ i a c. ap is_waiting_slot (made-in i (omega arith) (omega arith)))))
    ]
  ]
    where
      old : (base ≤ k → k < base + n → ⊥) → holder_at taken b.base
          ≡ Some (count_from (waits_at made) b.length b.base)
      old out =
          let was : slot_block slots k ≡ Some b = sym (ap block_in (made-out k out)) ∙ is in
          let w = t.blocks.within k b was in
          took.others b.base (λ lo hi. not-there b.base k b was (omega arith) (omega arith) lo hi)
          ∙ t.waits k b was
          ∙ ap Some (count-same (waits_at slots) (waits_at made) b.length b.base
          (λ i a c. ap is_waiting_slot (sym (made-out i (λ lo hi. not-there i k b was a c lo hi)))))

  pub IsTable-made : IsTable made taken
  IsTable-made = record {
    count = omega (arith, took.count, t.count, length-fill slots base n (empty_slot base n kind));
    few = omega (arith, t.few, length-fill slots base n (empty_slot base n kind));
    blocks = HasBlocks-placed slots base n kind found t.blocks;
    free = λ k. elim (cases_lt k base) [
      | inl low ↦ free-out k (λ lo hi. omega arith)
      | inr lo ↦ elim (cases_lt k (base + n)) [
        | inr high ↦ free-out k (λ lo hi. omega arith)
        | inl hi ↦ some-held (holder_at taken k) (took.held k lo hi) ∙ sym (ap is_none (made-in k lo hi))
      ]
    ];
    waits = counts-made;
  }
    where
      free-out : (k : ℕ) → (base ≤ k → k < base + n → ⊥) → is_none (holder_at taken k) ≡ is_none (slot_at made k)
      free-out k out = ap is_none (took.others k out) ∙ t.free k ∙ ap is_none (sym (made-out k out))

-- a block is given back
module _ (slots : List (Option Slot)) (holes : List (Option ℕ)) (gone : Block) (t : IsTable slots holes)
    (here : slot_block slots gone.base ≡ Some gone) where
  abbrev left : List (Option Slot)
  left = fill slots gone.base gone.length None

  abbrev given : List (Option ℕ)
  given = fill holes gone.base gone.length None

  inside : (k : ℕ) → gone.base ≤ k → k < gone.base + gone.length → k < length slots
  inside k lo hi = let w = t.blocks.within gone.base gone here in omega arith

  left-in : (k : ℕ) → gone.base ≤ k → k < gone.base + gone.length → slot_at left k ≡ None
  left-in k lo hi = get_or-fill_in slots gone.base gone.length None k lo hi (inside k lo hi)

  left-out : (k : ℕ) → (gone.base ≤ k → k < gone.base + gone.length → ⊥) → slot_at left k ≡ slot_at slots k
  left-out k out = beside-fill slots gone.base gone.length None k out

  -- another block has no cell of it
  apart-from : (i k : ℕ) (b : Block) → slot_block slots k ≡ Some b → (gone.base ≤ k → k < gone.base + gone.length → ⊥)
      → b.base ≤ i → i < b.base + b.length → gone.base ≤ i → i < gone.base + gone.length → ⊥
  apart-from i k b was out lb hb lo hi =
      let mine = one-block slots t.blocks gone.base k i gone b here was lo hi lb hb in
      let w = t.blocks.within k b was in
      let p : gone.base ≡ b.base = ap (λ (b : Block). b.base) mine in
      let q : gone.length ≡ b.length = ap (λ (b : Block). b.length) mine in
      out (omega arith) (omega arith)

  counts-left : (k : ℕ) (b : Block) → slot_block left k ≡ Some b
      → holder_at given b.base ≡ Some (count_from (waits_at left) b.length b.base)
  counts-left k b is = elim (cases_lt k gone.base) [
    | inl low ↦ old (λ lo hi. omega arith)
    | inr lo ↦ elim (cases_lt k (gone.base + gone.length)) [
      | inr high ↦ old (λ lo hi. omega arith)
      | inl hi ↦ absurd (some_none b (sym is ∙ ap block_in (left-in k lo hi)))
    ]
  ]
    where
      old : (gone.base ≤ k → k < gone.base + gone.length → ⊥) → holder_at given b.base
          ≡ Some (count_from (waits_at left) b.length b.base)
      old out =
          let was : slot_block slots k ≡ Some b = sym (ap block_in (left-out k out)) ∙ is in
          let w = t.blocks.within k b was in
          fill-out holes gone.base gone.length None b.base
          (λ lo hi. apart-from b.base k b was out (omega arith) (omega arith) lo hi)
          ∙ t.waits k b was
          ∙ ap Some (count-same (waits_at slots) (waits_at left) b.length b.base
          (λ i a c. ap is_waiting_slot (sym (left-out i (λ lo hi. apart-from i k b was out a c lo hi)))))

  pub IsTable-left : IsTable left given
  IsTable-left = record {
    count = omega (
      arith,
      t.count,
      length-fill slots gone.base gone.length None,
      length-fill holes gone.base gone.length None,
    );
    few = omega (arith, t.few, length-fill slots gone.base gone.length None);
    blocks = HasBlocks-released slots gone here t.blocks;
    free = λ k. elim (cases_lt k gone.base) [
      | inl low ↦ free-left k (λ lo hi. omega arith)
      | inr lo ↦ elim (cases_lt k (gone.base + gone.length)) [
        | inr high ↦ free-left k (λ lo hi. omega arith)
        | inl hi ↦
            ap is_none (get_or-fill_in holes gone.base gone.length None k lo hi
            (let i = inside k lo hi in omega (arith, t.count)))
            ∙ sym (ap is_none (left-in k lo hi))
      ]
    ];
    waits = counts-left;
  }
    where
      free-left : (k : ℕ) → (gone.base ≤ k → k < gone.base + gone.length → ⊥) → is_none (holder_at given k)
          ≡ is_none (slot_at left k)
      free-left k out = ap is_none (fill-out holes gone.base gone.length None k out) ∙ t.free k
          ∙ ap is_none (sym (left-out k out))

-- a block in which nobody waits is emptied
module _ (slots : List (Option Slot)) (holes : List (Option ℕ)) (block : Block) (t : IsTable slots holes)
    (here : slot_block slots block.base ≡ Some block)
    (quiet : list_any is_waiting_slot (take block.length (drop block.base slots)) ≡ false) where
  abbrev emptied : List (Option Slot)
  emptied = fill slots block.base block.length (new_slot block Empty)

  emptied-in : (k : ℕ) → block.base ≤ k → k < block.base + block.length → slot_at emptied k ≡ new_slot block Empty
  emptied-in k lo hi = get_or-fill_in slots block.base block.length (new_slot block Empty) k lo hi
      (let w = t.blocks.within block.base block here in omega arith)

  emptied-out : (k : ℕ) → (block.base ≤ k → k < block.base + block.length → ⊥) → slot_at emptied k ≡ slot_at slots k
  emptied-out k out = beside-fill slots block.base block.length (new_slot block Empty) k out

  -- what holds of a cell either way
  each-cell : (P : ℕ → Type 0) → ((k : ℕ) → block.base ≤ k → k < block.base + block.length → P k)
      → ((k : ℕ) → (block.base ≤ k → k < block.base + block.length → ⊥) → P k) → (k : ℕ) → P k
  each-cell P within beside k = elim (cases_lt k block.base) [
    | inl low ↦ beside k (λ lo hi. omega arith)
    | inr lo ↦ elim (cases_lt k (block.base + block.length)) [
      | inr high ↦ beside k (λ lo hi. omega arith)
      | inl hi ↦ within k lo hi
    ]
  ]

  pub IsTable-emptied : IsTable emptied holes
  IsTable-emptied = record {
    count = omega (arith, t.count, length-fill slots block.base block.length (new_slot block Empty));
    few = omega (arith, t.few, length-fill slots block.base block.length (new_slot block Empty));
    blocks = HasBlocks-emptied slots block here t.blocks;
    free = λ k. t.free k ∙ each-cell (λ k. is_none (slot_at slots k) ≡ is_none (slot_at emptied k))
        (λ k lo hi. held (slot_at slots k) (t.blocks.whole block.base block here k lo hi)
        ∙ sym (ap is_none (emptied-in k lo hi)))
        (λ k out. ap is_none (sym (emptied-out k out))) k;
    waits = counts-same slots emptied (waits_at slots) (waits_at emptied) holes
        (each-cell (λ k. slot_block emptied k ≡ slot_block slots k)
        (λ k lo hi. ap block_in (emptied-in k lo hi) ∙ sym (t.blocks.whole block.base block here k lo hi))
        (λ k out. ap block_in (emptied-out k out)))
        (each-cell (λ k. waits_at slots k ≡ waits_at emptied k)
        (λ k lo hi. quiet-at slots block t.blocks here quiet k lo hi ∙ sym (ap is_waiting_slot (emptied-in k lo hi)))
        (λ k out. ap is_waiting_slot (sym (emptied-out k out)))) t.waits;
  }
    where
      held : (o : Option Slot) → block_in o ≡ Some block → is_none o ≡ false
      held None e = absurd (some_none block (sym e))
      held (Some s) e = refl
