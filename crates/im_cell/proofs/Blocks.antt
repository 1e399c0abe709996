-- Blocks stay whole.
use Rattle.std.proofs.Common.{◌≡◌, ℕ, zero, suc, ◌+◌, ◌<◌, ◌≤◌, List, [], ◌∷◌, ◌++◌, length, get_or, take, set}
use Rattle.std.proofs.Common.{replicate, Some, None, Option, sym, refl, ap, ◌∙◌, subst, inl, inr, ⊎_elim, arith}
use Rattle.std.proofs.Common.{length-set, get_or-set_other, get_or-set_same}
use Rattle.std.proofs.lemmas.Bool.{cases_eq, cases_lt}
use Rattle.std.proofs.lemmas.List.{get_or-replicate, get_or_past, length-replicate, take_more}
use Rattle.im_types.specs.Types.{Kind, Block, Cell, CellEmpty as Empty, place, fill, change_each, CellRecord}
use Rattle.im_laws.proofs.BlockLemmas.{get_or-fill_in, length-change_each, length-fill, place-fits}
use Rattle.im_laws.proofs.PlaceLemmas.{get_or-change_each, get_or-fill, place-free}
use Rattle.im_cell.specs.declared.slots.Slot.{Slot}
use Rattle.im_cell.specs.Slots.{block_in, empty_slot, HoldsBlocks, new_slot, slot_at, slot_block, with_cell}

-- something is not nothing
some_none : {X : Type 0} (x : X) → Some x ≡ None → ⊥
some_none x e = cc

some_same : (b c : Block) → Some b ≡ Some c → b ≡ c
some_same b c e = cc

-- another cell in the same block
pub HasBlocks-set : (slots : List (Option Slot)) (a : ℕ) (slot : Slot) (cell : Cell) → slot_at slots a ≡ Some slot
    → HoldsBlocks slots → HoldsBlocks (set slots a (new_slot slot.block cell))
HasBlocks-set slots a slot cell at blocks = record {
  within = λ b block is. let w = blocks.within b block (sym (same b) ∙ is) in
      (w.0, w.1, omega (arith, length-set slots a (new_slot slot.block cell)));
  whole = λ b block is c lo hi. same c ∙ blocks.whole b block (sym (same b) ∙ is) c lo hi;
}
  where
    within : a < length slots
    within = elim (cases_lt a (length slots)) [
      | inl less ↦ less
      | inr past ↦ absurd
          (some_none slot (sym at ∙ get_or_past slots a None past))
    ]

    same : (b : ℕ) → slot_block (set slots a (new_slot slot.block cell)) b ≡ slot_block slots b
    same b = elim (cases_eq b a) [
      | inl e ↦
          ap (λ i. slot_block (set slots a (new_slot slot.block cell)) i) e
          ∙ ap block_in (get_or-set_same slots a (new_slot slot.block cell) None within)
          ∙ sym (ap block_in at) ∙ sym (ap (slot_block slots) e)
      | inr ne ↦ ap block_in (get_or-set_other slots a b (new_slot slot.block cell) None ne)
    ]

-- a new block, where there was none
pub HasBlocks-placed : (slots : List (Option Slot)) (base n : ℕ) (kind : Kind) → place n slots ≡ Some base
    → HoldsBlocks slots → HoldsBlocks (fill slots base n (empty_slot base n kind))
HasBlocks-placed slots base n kind e blocks = record {
  within = λ a b is. ⊎_elim
      (λ same. let w = blocks.within a b (sym (ap block_in same) ∙ is) in (w.0, w.1, omega (arith, long)))
      (λ h. let mine : block ≡ b = some_same block b (sym (ap block_in h.2) ∙ is) in
      let p = ap (λ (b : Block). b.base) mine in let q = ap (λ (b : Block). b.length) mine in
      (omega arith, omega arith, omega (arith, long, fits)))
      (get_or-fill slots base n new a);
  whole = λ a b is c lo hi. ⊎_elim
      (λ same. ⊎_elim
      (λ same_c. ap block_in same_c ∙ blocks.whole a b (sym (ap block_in same) ∙ is) c lo hi)
      (λ h. absurd (some_none b
      (sym (blocks.whole a b (sym (ap block_in same) ∙ is) c lo hi)
      ∙ ap block_in (place-free n slots base e c h.0 h.1))))
      (get_or-fill slots base n new c))
      (λ h. let mine : block ≡ b = some_same block b (sym (ap block_in h.2) ∙ is) in
      let p = ap (λ (b : Block). b.base) mine in let q = ap (λ (b : Block). b.length) mine in
      ap block_in (get_or-fill_in slots base n new c (omega arith) (omega arith) (omega (arith, fits))) ∙ ap Some mine)
      (get_or-fill slots base n new a);
}
  where
    block : Block
    block = record { base = base; length = n; kind = kind }

    new : Option Slot
    new = empty_slot base n kind

    long : length (fill slots base n new) ≡ length slots
    long = length-fill slots base n new

    fits : base + n ≤ length slots
    fits = place-fits n slots base e

-- a block is gone
pub HasBlocks-released : (slots : List (Option Slot)) (block : Block) → slot_block slots block.base ≡ Some block
    → HoldsBlocks slots → HoldsBlocks (fill slots block.base block.length None)
HasBlocks-released slots block at blocks = record {
  within = λ a b is. ⊎_elim
      (λ same. let w = blocks.within a b (sym (ap block_in same) ∙ is) in
      (w.0, w.1, omega (arith, length-fill slots block.base block.length None)))
      (λ h. absurd (some_none b (sym is ∙ ap block_in h.2)))
      (get_or-fill slots block.base block.length None a);
  whole = λ a b is c lo hi. ⊎_elim
      (λ same. ⊎_elim
      (λ same_c. ap block_in same_c ∙ blocks.whole a b (sym (ap block_in same) ∙ is) c lo hi)
      (λ h.
      let was = sym (ap block_in same) ∙ is in
      let mine : b ≡ block = some_same b block
      (sym (blocks.whole a b was c lo hi) ∙ blocks.whole block.base block at c h.0 h.1) in
      let p = ap (λ (b : Block). b.base) mine in
      let q = ap (λ (b : Block). b.length) mine in
      let w = blocks.within a b was in
      absurd (some_none b
      (sym is ∙ ap block_in
      (get_or-fill_in slots block.base block.length None a (omega arith) (omega arith) (omega arith)))))
      (get_or-fill slots block.base block.length None c))
      (λ h. absurd (some_none b (sym is ∙ ap block_in h.2)))
      (get_or-fill slots block.base block.length None a);
}

-- cells that are all changed into one are filled with it
change_each-fill : {X : Type 0} (change : Option X → Option X) (xs : List (Option X)) (base n : ℕ) (x : Option X)
    → ((b : ℕ) → base ≤ b → b < base + n → b < length xs → change (get_or xs b None) ≡ x)
    → change_each change xs base n ≡ fill xs base n x
change_each-fill change [] base n x same = refl
change_each-fill change (y ∷ xs) zero zero x same = refl
change_each-fill change (y ∷ xs) zero (suc n) x same =
    ap (λ z. z ∷ change_each change xs zero n) (same 0 (omega arith) (omega arith) (omega arith))
    ∙ ap (λ zs. x ∷ zs) (change_each-fill change xs zero n x
    (λ b lo hi h. same (suc b) (omega arith) (omega arith) (omega arith)))
change_each-fill change (y ∷ xs) (suc base) n x same =
    ap (λ zs. y ∷ zs) (change_each-fill change xs base n x
    (λ b lo hi h. same (suc b) (omega arith) (omega arith) (omega arith)))

-- the cells of a block are empty
module _ (slots : List (Option Slot)) (block : Block) (at : slot_block slots block.base ≡ Some block)
    (blocks : HoldsBlocks slots) where
  -- emptied one by one, they are filled
  pub emptied-fill : change_each (with_cell Empty) slots block.base block.length
      ≡ fill slots block.base block.length (new_slot block Empty)
  emptied-fill = change_each-fill (with_cell Empty) slots block.base block.length (new_slot block Empty)
      (λ b lo hi h. empty_there (slot_at slots b) (blocks.whole block.base block at b lo hi))
    where
      empty_there : (o : Option Slot) → block_in o ≡ Some block → with_cell Empty o ≡ new_slot block Empty
      empty_there None is = absurd (some_none block (sym is))
      empty_there (Some slot) is = ap (λ b. new_slot b Empty) (some_same slot.block block is)

  -- the blocks are as they were
  pub HasBlocks-emptied : HoldsBlocks (fill slots block.base block.length (new_slot block Empty))
  HasBlocks-emptied = subst HoldsBlocks emptied-fill (record {
    within = λ a b is. let w = blocks.within a b (sym (same a) ∙ is) in (w.0, w.1, omega (arith, long));
    whole = λ a b is c lo hi. same c ∙ blocks.whole a b (sym (same a) ∙ is) c lo hi;
  })
    where
      long : length (change_each (with_cell Empty) slots block.base block.length) ≡ length slots
      long = length-change_each (with_cell Empty) slots block.base block.length

      own : (o : Option Slot) → block_in (with_cell Empty o) ≡ block_in o
      own None = refl
      own (Some slot) = refl

      same : (b : ℕ) → slot_block (change_each (with_cell Empty) slots block.base block.length) b ≡ slot_block slots b
      same b = ⊎_elim (λ h. ap block_in h) (λ h. ap block_in h.2 ∙ own (slot_at slots b))
          (get_or-change_each (with_cell Empty) slots block.base block.length b)

-- what is known of the block whose base is this address
pub record IsBlock (slots : List (Option Slot)) (block : Block) : Type 0 where
  pub here : slot_block slots block.base ≡ Some block
  pub some : 0 < block.length
  pub inside : block.base + block.length ≤ length slots

-- one more of the cells that are put into a row
pub row-more : (cells row new : List CellRecord) (i : ℕ) (d : CellRecord) → row ≡ take i cells → i < length cells
    → new ≡ row ++ get_or cells i d ∷ [] → new ≡ take (i + 1) cells
row-more cells row new i d begun inside pushed =
    pushed ∙ ap (λ (row : List CellRecord). row ++ get_or cells i d ∷ []) begun ∙ sym (take_more cells i d inside)

-- the same of a block that was found at an address of the table
pub IsBlock-at : (slots value : List (Option Slot)) (a : ℕ) (block : Block) → slots ≡ value → block.base ≡ a
    → slot_block value a ≡ Some block → HoldsBlocks slots → IsBlock slots block
IsBlock-at slots value a block same base at blocks =
    let here : slot_block slots block.base ≡ Some block =
    ap (slot_block slots) base ∙ ap (λ s. slot_block s a) same ∙ at in
    let w = blocks.within block.base block here in
    record { here = here; some = omega (arith, w.1); inside = w.2 }

past-free : (n a : ℕ) (x : Option Slot) → n ≤ a → get_or (replicate n x) a None ≡ None
past-free n a x past = get_or_past (replicate n x) a None (omega (arith, length-replicate n x))

-- where all cells are free there is no block
pub HasBlocks-free : (slots : List (Option Slot)) (n : ℕ) → slots ≡ replicate n None → HoldsBlocks slots
HasBlocks-free slots n free = record {
  within = λ a block is. absurd (no-block a block is);
  whole = λ a block is b lo hi. absurd (no-block a block is);
}
  where
    no-block : (a : ℕ) (block : Block) → slot_block slots a ≡ Some block → ⊥
    no-block a block is = some_none block (sym is ∙ ap (λ s. slot_block s a) free ∙ ap block_in (elim (cases_lt a n) [
      | inl less ↦ get_or-replicate n a None None less
      | inr past ↦ past-free n a None past
    ]))
