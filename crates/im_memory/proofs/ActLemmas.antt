-- What an operation comes to on a table and an arena is what it comes to on their cells.
use Rattle.std.proofs.Common.{◌≡◌, ℕ, Bool, true, false, cond, not, ◌≢◌, List, [], take, drop, ◌==◌, Some, None, Option}
use Rattle.std.proofs.Common.{sym, refl, ap, ◌∙◌, arith}
use Rattle.std.{proofs.lemmas.Bool.Decides.nat_tests, specs.List.list_any}
use Rattle.im_types.specs.Types.{Kind, Reply, Block, Answered, Base, NoSpace, BadLength, Released, NoBlock}
use Rattle.im_types.specs.Types.{StillWaiting, Cleared, Held, held_at, CellEmpty as Empty, place, fill, change_each}
use Rattle.im_types.specs.Types.{IsLeastFree, Acted as ActedCells, only_tells, new_cell, allocate_at, allocate}
use Rattle.im_types.specs.Types.{block_with_base, unless_waited_for, release_block, emptied, reset_block}
use Rattle.im_laws.{proofs.PlaceLemmas.place-free, specs.Blocks.TellsOnly}
use Rattle.{im_arena.specs.Lists.Shown, im_cell.specs.declared.Slot.Slot}
use Rattle.im_cell.specs.Slots.{block_from as slot_with_base, empty_slot, is_quiet_block, is_releasable}
use Rattle.im_cell.specs.Slots.{is_waiting_slot, length_at, length_of, slot_block, with_cell}
use Rattle.im_istore.proofs.Blocks.{Agree-emptied, Agree-placed, Agree-released}
use Rattle.im_istore.specs.{Agreement.Agree, Joined.cells_of, Joined.held_of}
use Rattle.im_memory.proofs.CellsLemmas.{any_waiting-cells, cells-emptied, cells-fill, free-list, place-cells}
use Rattle.im_memory.proofs.CellsLemmas.{with_base-cells}
use Rattle.im_memory.specs.declared.acts.{Acted.Acted, Resumed.TheVariants.Nobody}
use Rattle.im_memory.specs.Resuming.{HasActed, telling}

not_true : (b : Bool) → not b ≡ true → b ≡ false
not_true true e = absurd (cc)
not_true false e = refl

not_false : (b : Bool) → not b ≡ false → b ≡ true
not_false true e = refl
not_false false e = absurd (cc)

module _ (slots : List (Option Slot)) (arena : Shown) (agree : Agree slots arena) where
  abbrev cells : List (Option Held)
  cells = cells_of slots arena

  -- only an answer is given
  pub tells-HasActed : (reply : Reply) (was : ActedCells) → was ≡ only_tells cells reply
      → HasActed slots arena (telling reply) was
  tells-HasActed reply was e = record {
    cells = sym (ap (λ a. a.cells) e);
    told = sym (ap (λ a. a.entry) e);
    replies = sym (ap (λ a. a.resumed) e);
    listed = tt;
    agree = agree;
  }

  -- a new block
  allocate-placed : (kind : Kind) (n : ℕ) → n ≢ 0 → (o : Option ℕ) → o ≡ place n slots → allocate cells kind n
      ≡ allocate_at cells kind n o
  allocate-placed kind n some o e =
      let t : (n == 0) ≡ false = grind (arith, nat_tests) in
      ap (λ b. cond b (only_tells cells BadLength) (allocate_at cells kind n (place n cells))) t
      ∙ ap (allocate_at cells kind n) (place-cells slots arena n ∙ sym e)

  pub unplaced-HasActed : (kind : Kind) (n : ℕ) → n ≢ 0 → None ≡ place n slots
      → HasActed slots arena (telling NoSpace) (allocate cells kind n)
  unplaced-HasActed kind n some e = tells-HasActed NoSpace (allocate cells kind n) (allocate-placed kind n some None e)

  pub placed-HasActed : (kind : Kind) (n base : ℕ) → n ≢ 0 → Some base ≡ place n slots → IsLeastFree slots n base
      → HasActed (fill slots base n (empty_slot base n kind)) arena (telling (Base base)) (allocate cells kind n)
  placed-HasActed kind n base some e least = record {
    cells = cells-fill slots arena base n (empty_slot base n kind) (new_cell base n kind)
        (λ a lo hi. ap (held_of (empty_slot base n kind))
        (free-list slots arena agree a (place-free n slots base (sym e) a lo hi)))
        ∙ sym (ap (λ (acted : ActedCells). acted.cells) same);
    told = sym (ap (λ (acted : ActedCells). acted.entry) same);
    replies = sym (ap (λ (acted : ActedCells). acted.resumed) same);
    listed = tt;
    agree = Agree-placed slots arena base n kind least agree;
  }
    where
      same : allocate cells kind n ≡ allocate_at cells kind n (Some base)
      same = allocate-placed kind n some (Some base) e

  -- a block, or why its cells stay as they are
  module _ (a : ℕ) where
    abbrev asked : Option Block
    asked = block_with_base a (held_at cells a)

    found-at : (o : Option Block) → slot_with_base a (slot_block slots a) ≡ o → asked ≡ o
    found-at o e = with_base-cells slots arena a ∙ e

    pub absent-refused : None ≡ slot_block slots a → TellsOnly cells a NoBlock
    absent-refused e after reply = ap (unless_waited_for after reply cells a)
        (found-at None (ap (slot_with_base a) (sym e)))

    pub inner-refused : (block : Block) → Some block ≡ slot_block slots a → block.base ≢ a → TellsOnly cells a NoBlock
    inner-refused block e inner after reply =
        let t : (block.base == a) ≡ false = grind (arith, nat_tests) in
        ap (unless_waited_for after reply cells a)
        (found-at None (ap (slot_with_base a) (sym e) ∙ ap (λ b. cond b (Some block) None) t))

    own : (block : Block) → Some block ≡ slot_block slots a → block.base ≡ a → slot_with_base a (slot_block slots a)
        ≡ Some block
    own block e base =
        let t : (block.base == a) ≡ true = grind (arith, nat_tests) in
        ap (slot_with_base a) (sym e) ∙ ap (λ b. cond b (Some block) None) t

    becomes : (block : Block) → slot_with_base a (slot_block slots a) ≡ Some block → (b : Bool)
        → list_any is_waiting_slot (take block.length (drop a slots)) ≡ b
        → (after : Block → List (Option Held)) (reply : Reply)
        → unless_waited_for after reply cells a asked
        ≡ cond b (only_tells cells StillWaiting)
        (record { cells = after block; entry = Answered reply; resumed = [] })
    becomes block found b w after reply =
        ap (unless_waited_for after reply cells a) (found-at (Some block) found)
        ∙ ap (λ b. cond b (only_tells cells StillWaiting)
        (record { cells = after block; entry = Answered reply; resumed = [] }))
        (any_waiting-cells slots arena agree a block.length ∙ w)

    pub waiting-refused : (block : Block) → Some block ≡ slot_block slots a → block.base ≡ a → is_releasable slots a
        ≡ false → TellsOnly cells a StillWaiting
    waiting-refused block e base stays =
        becomes block (own block e base) true
        (not_false _ (sym (ap (is_quiet_block slots a) (own block e base)) ∙ stays))

    pub refused-HasActed : (reply : Reply) → TellsOnly cells a reply
        → (after : Block → List (Option Held)) (meant : Reply)
        → HasActed slots arena (telling reply) (unless_waited_for after meant cells a asked)
    refused-HasActed reply refused after meant = tells-HasActed reply _ (refused after meant)

    -- the block whose cells may change
    pub record IsFound : Type 0 where
      pub block : Block
      pub found : slot_with_base a (slot_block slots a) ≡ Some block
      pub at : Some block ≡ slot_block slots a
      pub base : block.base ≡ a
      pub nobody : list_any is_waiting_slot (take block.length (drop a slots)) ≡ false

    pub releasable-found : true ≡ is_releasable slots a → IsFound
    releasable-found r = by_block (slot_block slots a) refl (sym r)
      where
        by_base : (block : Block) → slot_block slots a ≡ Some block → (t : Bool) → (block.base == a) ≡ t
            → is_quiet_block slots a (cond t (Some block) None) ≡ true → IsFound
        by_base block e true t r =
            let base : block.base ≡ a = grind (arith, nat_tests) in
            record { block = block; found = own block (sym e) base; at = sym e; base = base; nobody = not_true _ r }
        by_base block e false t r = absurd (cc)

        by_block : (o : Option Block) → slot_block slots a ≡ o → is_quiet_block slots a (slot_with_base a o) ≡ true
            → IsFound
        by_block None e r = absurd (cc)
        by_block (Some block) e r = by_base block e (block.base == a) refl r

    module _ (r : true ≡ is_releasable slots a) where
      abbrev it : IsFound
      it = releasable-found r

      pub released-HasActed : HasActed (fill slots a (length_at slots a) None) arena (telling Released)
          (release_block cells a asked)
      released-HasActed = record {
        cells = cells-fill slots arena a (length_at slots a) None None (λ b lo hi. refl)
            ∙ ap (λ (o : Option Block). fill cells a (length_of o) None) (sym it.at)
            ∙ sym (ap (λ (acted : ActedCells). acted.cells) same);
        told = sym (ap (λ (acted : ActedCells). acted.entry) same);
        replies = sym (ap (λ (acted : ActedCells). acted.resumed) same);
        listed = tt;
        agree = Agree-released slots arena a (sym r) agree;
      }
        where
          same : release_block cells a asked
              ≡ record { cells = fill cells a it.block.length None; entry = Answered Released; resumed = [] }
          same = becomes it.block it.found false it.nobody (λ block. fill cells a block.length None) Released

      pub reset-HasActed : HasActed (change_each (with_cell Empty) slots a (length_at slots a)) arena
          (telling Cleared) (reset_block cells a asked)
      reset-HasActed = record {
        cells = cells-emptied slots arena agree a (length_at slots a)
            (ap (λ (o : Option Block). list_any is_waiting_slot (take (length_of o) (drop a slots)))
            (sym it.at) ∙ it.nobody)
            ∙ ap (λ (o : Option Block). change_each emptied cells a (length_of o)) (sym it.at)
            ∙ sym (ap (λ (acted : ActedCells). acted.cells) same);
        told = sym (ap (λ (acted : ActedCells). acted.entry) same);
        replies = sym (ap (λ (acted : ActedCells). acted.resumed) same);
        listed = tt;
        agree = Agree-emptied slots arena a (sym r) agree;
      }
        where
          same : reset_block cells a asked
              ≡ record { cells = change_each emptied cells a it.block.length; entry = Answered Cleared; resumed = [] }
          same = becomes it.block it.found false it.nobody (λ block. change_each emptied cells a block.length) Cleared
