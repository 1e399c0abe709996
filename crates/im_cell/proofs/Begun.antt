-- A table over cells that were read: who waits is counted, and the free cells become holes.
use Rattle.std.proofs.Common.{◌≡◌, ℕ, ◌+◌, ◌-◌, ◌^◌, ◌<◌, ◌≤◌, true, false, cond, ◌≢◌, List, length, set, replicate}
use Rattle.std.proofs.Common.{is_none, IsSome, Some, None, Option, sym, refl, ap, ◌∙◌, subst, inl, inr, arith}
use Rattle.std.proofs.Common.{length-set, get_or-set_other, get_or-set_same, rules}
use Rattle.std.proofs.lemmas.Bool.{cases_eq, cases_lt}
use Rattle.std.proofs.lemmas.List.{get_or-replicate, get_or_past, length-replicate}
use Rattle.im_types.specs.Types.{Block, fill}
use Rattle.im_laws.proofs.{BlockLemmas.get_or-fill_in, BlockLemmas.length-fill, Tests.some_none, Tests.true_false}
use Rattle.im_holes.{proofs.Giving.fill-out, proofs.Kept.lt-not, proofs.Kept.lt-yes, specs.Holes.holder_at}
use Rattle.im_cell.proofs.Counted.{count-few, count-more, count-none}
use Rattle.im_cell.proofs.Tables.{at-base, counts-moved, counts-same}
use Rattle.im_cell.specs.declared.slots.Slot.{Slot}
use Rattle.im_cell.specs.Slots.{block_in, HoldsBlocks, is_waiting_slot, slot_at, slot_block}
use Rattle.im_cell.specs.Table.{base_in, CanMove, count_from, HasCounts, IsFreeTo, IsHeldBy, moved, waits_at}
use Rattle.im_cell.specs.Table.{waits_before}

-- no cell is counted yet
pub counts-begun : (slots : List (Option Slot)) (holes : List (Option ℕ)) → HoldsBlocks slots
    → holes ≡ replicate (length slots) (Some 0) → HasCounts slots (waits_before slots 0) holes
counts-begun slots holes blocks all = λ k b is.
    let w = blocks.within k b is in
    ap (λ hs. holder_at hs b.base) all ∙ get_or-replicate (length slots) b.base (Some 0) None (omega arith)
    ∙ ap Some (sym (count-none (waits_before slots 0) b.length b.base
    (λ i lo hi. ap (λ t. cond t (waits_at slots i) false) (lt-not i 0 (omega arith)))))

pub held-begun : (holes : List (Option ℕ)) (n : ℕ) → holes ≡ replicate n (Some 0) → IsHeldBy holes n
held-begun holes n all = record {
  count = ap length all ∙ length-replicate n (Some 0);
  held = λ k less. subst IsSome (sym (ap (λ hs. holder_at hs k) all ∙ get_or-replicate n k (Some 0) None less))
      (there 0);
}
  where
    there : (n : ℕ) → IsSome (Some n)
    there n = search rules

-- the cells before the next one
before-other : (slots : List (Option Slot)) (a k : ℕ) → k ≢ a → waits_before slots a k ≡ waits_before slots (a + 1) k
before-other slots a k ne = elim (cases_lt k a) [
  | inl less ↦ ap (λ t. cond t (waits_at slots k) false) (lt-yes k a less ∙ sym (lt-yes k (a + 1) (omega arith)))
  | inr more ↦ ap (λ t. cond t (waits_at slots k) false)
      (lt-not k a more ∙ sym (lt-not k (a + 1) (omega arith)))
]

before-here : (slots : List (Option Slot)) (a : ℕ) → waits_before slots a a ≡ false
before-here slots a = ap (λ t. cond t (waits_at slots a) false) (lt-not a a (omega arith))

before-next : (slots : List (Option Slot)) (a : ℕ) → waits_before slots (a + 1) a ≡ waits_at slots a
before-next slots a = ap (λ t. cond t (waits_at slots a) false) (lt-yes a (a + 1) (omega arith))

-- nobody waits for the next one
pub counts-passed : (slots : List (Option Slot)) (holes : List (Option ℕ)) (a : ℕ) → waits_at slots a ≡ false
    → HasCounts slots (waits_before slots a) holes → HasCounts slots (waits_before slots (a + 1)) holes
counts-passed slots holes a none c =
    counts-same slots slots (waits_before slots a) (waits_before slots (a + 1)) holes (λ k. refl)
    (λ k. elim (cases_eq k a) [
      | inl e ↦ ap (waits_before slots a) e ∙ before-here slots a ∙ sym none ∙ sym (before-next slots a)
          ∙ sym (ap (waits_before slots (a + 1)) e)
      | inr ne ↦ before-other slots a k ne
    ]) c

-- somebody does
module _ (slots : List (Option Slot)) (holes : List (Option ℕ)) (a : ℕ) (b : Block) (blocks : HoldsBlocks slots)
    (few : length slots < 2 ^ 32) (held : IsHeldBy holes (length slots)) (here : slot_block slots a ≡ Some b)
    (waits : waits_at slots a ≡ true) (c : HasCounts slots (waits_before slots a) holes) where
  count-next : count_from (waits_before slots (a + 1)) b.length b.base
      ≡ count_from (waits_before slots a) b.length b.base + 1
  count-next =
      let w = blocks.within a b here in
      let one = count-more (waits_before slots a) (waits_before slots (a + 1)) b.length b.base a (omega arith)
      (omega arith) (before-here slots a) (before-next slots a ∙ waits) (λ k ne. before-other slots a k ne) in
      omega arith

  pub can-count : CanMove true (count_from (waits_before slots a) b.length b.base)
  can-count =
      let w = blocks.within a b here in
      let f = count-few (waits_before slots (a + 1)) b.length b.base in
      ((λ e. omega (arith, count-next)), (λ e. absurd (true_false e)))

  pub number-there : holder_at holes b.base ≡ Some (count_from (waits_before slots a) b.length b.base)
  number-there = c a b here

  pub counts-counted : HasCounts slots (waits_before slots (a + 1))
      (set holes b.base (Some (count_from (waits_before slots a) b.length b.base + 1)))
  counts-counted = counts-moved slots (waits_before slots a) (waits_before slots (a + 1)) holes a b
      (count_from (waits_before slots a) b.length b.base + 1) blocks here (omega (arith, held.count))
      (λ k ne. before-other slots a k ne) (sym count-next) c

  pub held-counted : (n : ℕ) → IsHeldBy (set holes b.base (Some n)) (length slots)
  held-counted n = record {
    count = length-set holes b.base (Some n) ∙ held.count;
    held = λ k less. elim (cases_eq k b.base) [
      | inl e ↦ subst IsSome (sym (ap (holder_at (set holes b.base (Some n))) e
          ∙ get_or-set_same holes b.base (Some n) None (omega (arith, held.count)))) (some-there n)
      | inr ne ↦ subst IsSome (sym (get_or-set_other holes b.base k (Some n) None ne)) (held.held k less)
    ];
  }
    where
      some-there : (n : ℕ) → IsSome (Some n)
      some-there n = search rules

-- all cells are counted
pub counts-all : (slots : List (Option Slot)) (holes : List (Option ℕ)) (a : ℕ) → length slots ≤ a
    → HasCounts slots (waits_before slots a) holes → HasCounts slots (waits_at slots) holes
counts-all slots holes a past c =
    counts-same slots slots (waits_before slots a) (waits_at slots) holes (λ k. refl) (λ k. elim (cases_lt k a) [
      | inl less ↦ ap (λ t. cond t (waits_at slots k) false) (lt-yes k a less)
      | inr more ↦ ap (λ t. cond t (waits_at slots k) false) (lt-not k a more)
          ∙ sym (ap is_waiting_slot (get_or_past slots k None (omega arith)))
    ]) c

-- the free cells before one are holes, and those from it on are all held
pub record IsGivenTo (slots : List (Option Slot)) (holes : List (Option ℕ)) (at : ℕ) : Type 0 where
  pub count : length holes ≡ length slots
  pub waits : HasCounts slots (waits_at slots) holes
  pub below : (k : ℕ) → k < at → is_none (holder_at holes k) ≡ is_none (slot_at slots k)
  pub held : (k : ℕ) → at ≤ k → k < length slots → IsSome (holder_at holes k)

-- cells up to one that isn't free
pub IsGivenTo-more : (slots : List (Option Slot)) (holes : List (Option ℕ)) (at end : ℕ) → HoldsBlocks slots
    → IsFreeTo slots at end → IsGivenTo slots holes at → IsGivenTo slots (fill holes at (end - at) None) end
IsGivenTo-more slots holes at end blocks free g =
    let o = free.order in let i = free.inside in record {
      count = length-fill holes at (end - at) None ∙ g.count;
      waits = λ k b is.
          let base = at-base slots blocks k b is in
          fill-out holes at (end - at) None b.base
          (λ lo hi. some_none b (sym base ∙ ap block_in (free.free b.base lo (omega arith)))) ∙ g.waits k b is;
      below = λ k less. elim (cases_lt k at) [
        | inl low ↦ ap is_none (fill-out holes at (end - at) None k (λ lo hi. omega arith)) ∙ g.below k low
        | inr from ↦ ap is_none (get_or-fill_in holes at (end - at) None k from (omega arith) (omega (arith, g.count)))
            ∙ sym (ap is_none (free.free k from less))
      ];
      held = λ k lo less. subst IsSome (sym (fill-out holes at (end - at) None k (λ a b. omega arith)))
          (g.held k (omega arith) less);
    }

-- one that is waited for is there
waiting-slot : (o : Option Slot) → is_waiting_slot o ≡ true → (s : Slot) × (o ≡ Some s)
waiting-slot None e = absurd (true_false (sym e))
waiting-slot (Some s) e = (s, refl)

module _ (slots : List (Option Slot)) (holes : List (Option ℕ)) (a : ℕ) (blocks : HoldsBlocks slots)
    (few : length slots < 2 ^ 32) (held : IsHeldBy holes (length slots)) (waits : waits_at slots a ≡ true)
    (c : HasCounts slots (waits_before slots a) holes) where
  pub count-held : (n : ℕ) × (holder_at holes (base_in (slot_at slots a)) ≡ Some n) × CanMove true n
  count-held =
      let f = waiting-slot (slot_at slots a) waits in (
        count_from (waits_before slots a) (f.0).block.length (f.0).block.base,
        ap (λ o. holder_at holes (base_in o)) f.1
            ∙ number-there slots holes a (f.0).block blocks few held (ap block_in f.1) waits c,
        can-count slots holes a (f.0).block blocks few held (ap block_in f.1) waits c,
      )

  pub count-slot : IsSome (slot_at slots a)
  count-slot = let f = waiting-slot (slot_at slots a) waits in subst IsSome (sym f.1) (slot-there f.0)
    where
      slot-there : (s : Slot) → IsSome (Some s)
      slot-there s = search rules

  module _ (new_holes : List (Option ℕ))
      (is_new : (n : ℕ) → holder_at holes (base_in (slot_at slots a)) ≡ Some n
      → new_holes ≡ set holes (base_in (slot_at slots a)) (Some (moved true n))) where
    new-is : (s : Slot) → slot_at slots a ≡ Some s
        → new_holes ≡ set holes s.block.base (Some (count_from (waits_before slots a) s.block.length s.block.base + 1))
    new-is s e =
        is_new (count_from (waits_before slots a) s.block.length s.block.base)
        (ap (λ o. holder_at holes (base_in o)) e
        ∙ number-there slots holes a s.block blocks few held (ap block_in e) waits c)
        ∙ ap (λ o. set holes (base_in o) (Some (count_from (waits_before slots a) s.block.length s.block.base + 1))) e

    pub held-step : IsHeldBy new_holes (length slots)
    held-step =
        let f = waiting-slot (slot_at slots a) waits in
        subst (λ h. IsHeldBy h (length slots)) (sym (new-is f.0 f.1))
        (held-counted slots holes a (f.0).block blocks few held (ap block_in f.1) waits c
        (count_from (waits_before slots a) (f.0).block.length (f.0).block.base + 1))

    pub counts-step : HasCounts slots (waits_before slots (a + 1)) new_holes
    counts-step =
        let f = waiting-slot (slot_at slots a) waits in
        subst (λ h. HasCounts slots (waits_before slots (a + 1)) h) (sym (new-is f.0 f.1))
        (counts-counted slots holes a (f.0).block blocks few held (ap block_in f.1) waits c)
