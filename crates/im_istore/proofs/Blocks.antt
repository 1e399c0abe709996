-- Cells and lists agree at the start, and still do after a block is made or gone.
use Rattle.std.proofs.Common.{◌≡◌, ℕ, zero, suc, Bool, true, false, not, ◌||◌, List, [], ◌∷◌, length, get_or, take}
use Rattle.std.proofs.Common.{drop, replicate, IfSome, if◌then◌else◌, IsNone, IsTrue, ◌==◌, Some, None, Option, sym}
use Rattle.std.proofs.Common.{refl, ap, ◌∙◌, subst}
use Rattle.std.{proofs.lemmas.List.length-replicate, specs.List.list_any}
use Rattle.im_types.specs.Types.{Kind, Waiter, Block, CellEmpty as Empty, begins_free, fill, change_each, IsLeastFree}
use Rattle.{im_arena.specs.Lists.Shown, im_cell.specs.declared.Slot.Slot}
use Rattle.im_cell.specs.Slots.{block_from, empty_slot, is_quiet_block, is_releasable, is_waiting_slot, length_at}
use Rattle.im_cell.specs.Slots.{length_of, slot_at, slot_block, with_cell}
use Rattle.im_istore.specs.Agreement.{Agree, has_some}

get_or-same : {X : Type 0} (n a : ℕ) (x : X) → get_or (replicate n x) a x ≡ x
get_or-same zero a x = refl
get_or-same (suc n) zero x = refl
get_or-same (suc n) (suc a) x = get_or-same n a x

-- free cells and empty lists
pub Agree-start : (n : ℕ) (arena : Shown) → arena.held.lists ≡ replicate n [] → Agree (replicate n None) arena
Agree-start n arena e = record {
  lists = ap length e ∙ length-replicate n [] ∙ sym (length-replicate n None);
  each = λ a. ap is_waiting_slot (get_or-same n a None) ∙ ap has_some (sym (get_or-same n a []))
      ∙ ap (λ (lists : List (List Waiter)). has_some (get_or lists a [])) (sym e);
}

neither : (p q : Bool) → (p || q) ≡ false → (p ≡ false) × (q ≡ false)
neither true q e = absurd (cc)
neither false q e = (refl, e)

length-fill : (slots : List (Option Slot)) (base n : ℕ) (slot : Option Slot) → length (fill slots base n slot)
    ≡ length slots
length-fill [] base n slot = refl
length-fill (old ∷ slots) zero zero slot = refl
length-fill (old ∷ slots) zero (suc n) slot = ap suc (length-fill slots zero n slot)
length-fill (old ∷ slots) (suc base) n slot = ap suc (length-fill slots base n slot)

-- slots that nobody waits for are written by one that nobody waits for
fill-quiet : (slots : List (Option Slot)) (base n : ℕ) (slot : Option Slot) → is_waiting_slot slot ≡ false
    → list_any is_waiting_slot (take n (drop base slots)) ≡ false
    → (a : ℕ) → is_waiting_slot (slot_at (fill slots base n slot) a) ≡ is_waiting_slot (slot_at slots a)
fill-quiet [] base n slot quiet none a = refl
fill-quiet (old ∷ slots) zero zero slot quiet none a = refl
fill-quiet (old ∷ slots) zero (suc n) slot quiet none zero = quiet ∙ sym (neither (is_waiting_slot old) _ none).0
fill-quiet (old ∷ slots) zero (suc n) slot quiet none (suc a) = fill-quiet slots zero n slot quiet
    (neither (is_waiting_slot old) _ none).1 a
fill-quiet (old ∷ slots) (suc base) n slot quiet none zero = refl
fill-quiet (old ∷ slots) (suc base) n slot quiet none (suc a) = fill-quiet slots base n slot quiet none a

Agree-filled : (slots : List (Option Slot)) (arena : Shown) (base n : ℕ) (slot : Option Slot)
    → is_waiting_slot slot ≡ false
    → list_any is_waiting_slot (take n (drop base slots)) ≡ false → Agree slots arena
    → Agree (fill slots base n slot) arena
Agree-filled slots arena base n slot quiet none agree = record {
  lists = agree.lists ∙ sym (length-fill slots base n slot);
  each = λ a. fill-quiet slots base n slot quiet none a ∙ agree.each a;
}

-- nobody waits for a free cell
free-quiet : (slots : List (Option Slot)) (n : ℕ) → IsTrue (begins_free n slots)
    → list_any is_waiting_slot (take n slots)
    ≡ false
free-quiet slots zero free = refl
free-quiet [] (suc n) free = refl
free-quiet (None ∷ slots) (suc n) free = free-quiet slots n free
free-quiet (Some slot ∷ slots) (suc n) free = absurd (cc)

pub Agree-placed : (slots : List (Option Slot)) (arena : Shown) (base n : ℕ) (kind : Kind) → IsLeastFree slots n base
    → Agree slots arena
    → Agree (fill slots base n (empty_slot base n kind)) arena
Agree-placed slots arena base n kind least agree = Agree-filled slots arena base n (empty_slot base n kind) refl
    (free-quiet (drop base slots) n least.free) agree

not_true : (b : Bool) → not b ≡ true → b ≡ false
not_true true e = absurd (cc)
not_true false e = refl

quiet_if : (slots : List (Option Slot)) (a : ℕ) (block : Block) (b : Bool)
    → is_quiet_block slots a (if b then Some block else None) ≡ true
    → list_any is_waiting_slot (take block.length (drop a slots)) ≡ false
quiet_if slots a block true e = not_true _ e
quiet_if slots a block false e = absurd (cc)

releasable-quiet : (slots : List (Option Slot)) (a : ℕ) (block : Option Block)
    → is_quiet_block slots a (block_from a block) ≡ true
    → list_any is_waiting_slot (take (length_of block) (drop a slots)) ≡ false
releasable-quiet slots a None e = absurd (cc)
releasable-quiet slots a (Some block) e = quiet_if slots a block (block.base == a) e

pub Agree-released : (slots : List (Option Slot)) (arena : Shown) (base : ℕ) → is_releasable slots base ≡ true
    → Agree slots arena
    → Agree (fill slots base (length_at slots base) None) arena
Agree-released slots arena base e agree = Agree-filled slots arena base (length_at slots base) None refl
    (releasable-quiet slots base (slot_block slots base) e) agree

-- slots that nobody waits for are emptied
emptied-quiet : (slots : List (Option Slot)) (base n : ℕ) → list_any is_waiting_slot (take n (drop base slots)) ≡ false
    → (a : ℕ) → is_waiting_slot (slot_at (change_each (with_cell Empty) slots base n) a)
    ≡ is_waiting_slot (slot_at slots a)
emptied-quiet [] base n none a = refl
emptied-quiet (old ∷ slots) zero zero none a = refl
emptied-quiet (old ∷ slots) zero (suc n) none zero = quiet old ∙ sym (neither (is_waiting_slot old) _ none).0
  where
    quiet : (o : Option Slot) → is_waiting_slot (with_cell Empty o) ≡ false
    quiet None = refl
    quiet (Some slot) = refl
emptied-quiet (old ∷ slots) zero (suc n) none (suc a) =
    emptied-quiet slots zero n (neither (is_waiting_slot old) _ none).1 a
emptied-quiet (old ∷ slots) (suc base) n none zero = refl
emptied-quiet (old ∷ slots) (suc base) n none (suc a) = emptied-quiet slots base n none a

length-change_each : (slots : List (Option Slot)) (base n : ℕ) → length (change_each (with_cell Empty) slots base n)
    ≡ length slots
length-change_each [] base n = refl
length-change_each (old ∷ slots) zero zero = refl
length-change_each (old ∷ slots) zero (suc n) = ap suc (length-change_each slots zero n)
length-change_each (old ∷ slots) (suc base) n = ap suc (length-change_each slots base n)

pub Agree-emptied : (slots : List (Option Slot)) (arena : Shown) (base : ℕ) → is_releasable slots base ≡ true
    → Agree slots arena
    → Agree (change_each (with_cell Empty) slots base (length_at slots base)) arena
Agree-emptied slots arena base e agree = record {
  lists = agree.lists ∙ sym (length-change_each slots base (length_at slots base));
  each = λ a. emptied-quiet slots base (length_at slots base) (releasable-quiet slots base (slot_block slots base) e) a
      ∙ agree.each a;
}

-- a call that makes a block, or doesn't
pub Agree-place : (answer : Option ℕ) (slots new : List (Option Slot)) (arena : Shown) (n : ℕ) (kind : Kind)
    → IfSome answer (IsLeastFree slots n)
    → IfSome answer (λ base. new ≡ fill slots base n (empty_slot base n kind)) → (IsNone answer → new ≡ slots)
    → Agree slots arena → Agree new arena
Agree-place None slots new arena n kind least made same agree = subst (λ s. Agree s arena) (sym (same refl)) agree
Agree-place (Some base) slots new arena n kind least made same agree = subst (λ s. Agree s arena) (sym made)
    (Agree-placed slots arena base n kind least agree)

-- a call that releases a block, or doesn't
pub Agree-release : (answer : Bool) (slots new : List (Option Slot)) (arena : Shown) (base : ℕ) → answer
    ≡ is_releasable slots base
    → (IsTrue answer → new ≡ fill slots base (length_at slots base) None) → (answer ≡ false → new ≡ slots)
    → Agree slots arena → Agree new arena
Agree-release true slots new arena base done released same agree = subst (λ s. Agree s arena) (sym (released refl))
    (Agree-released slots arena base (sym done) agree)
Agree-release false slots new arena base done released same agree = subst (λ s. Agree s arena) (sym (same refl)) agree
