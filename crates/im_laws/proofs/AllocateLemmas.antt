-- What an allocation, a release and a reset come to.
use Rattle.std.proofs.Common.{◌≡◌, ℕ, ◌+◌, ◌<◌, ◌≤◌, Bool, true, false, cond, List, [], length, take, drop, ◌==◌, Some}
use Rattle.std.proofs.Common.{None, Option, option_map, sym, refl, ap, ◌∙◌, arith}
use Rattle.std.{proofs.lemmas.Bool.Decides.nat_tests, specs.List.list_any}
use Rattle.im_types.specs.Types.{Kind, Reply, Block, Answered, Alloc, Release, Reset, Base, NoSpace, BadLength}
use Rattle.im_types.specs.Types.{Released, NoBlock, StillWaiting, Cleared, Request, Held, Contents, held_at, waiters_at}
use Rattle.im_types.specs.Types.{block_at, HasBlocks, is_free, place, fill, change_each, IsLeastFree, only_tells}
use Rattle.im_types.specs.Types.{new_cell, allocate_at, allocate, block_with_base, is_waiting_cell, unless_waited_for}
use Rattle.im_types.specs.Types.{emptied, Stepped}
use Rattle.im_laws.proofs.{BlockLemmas.get_or-fill_in, BlockLemmas.place-fits, ResumeLemmas.new-served}
use Rattle.im_laws.proofs.{ResumeLemmas.served-entry, StepAgrees.nobody_waits, Tests.some_none, Tests.some_same}
use Rattle.im_laws.proofs.PlaceLemmas.{get_or-change_each_in, place-least, place-none}
use Rattle.im_laws.specs.{Cells.empty_cell, Requests.after_request, Requests.IsServed}

same_reply : (a b : Reply) → Answered a ≡ Answered b → a ≡ b
same_reply a b e = cc

-- a block that was made
pub record IsMade (cells : List (Option Held)) (kind : Kind) (n base : ℕ) : Type 0 where
  pub some : 1 ≤ n
  pub placed : place n cells ≡ Some base
  pub made : (allocate cells kind n).cells ≡ fill cells base n (new_cell base n kind)

allocate-base : (cells : List (Option Held)) (kind : Kind) (n base : ℕ) → (allocate cells kind n).entry
    ≡ Answered (Base base)
    → IsMade cells kind n base
allocate-base cells kind n base = by_test (n == 0) refl
  where
    by_place : (o : Option ℕ) → place n cells ≡ o → (n == 0) ≡ false → (allocate_at cells kind n o).entry
        ≡ Answered (Base base)
        → IsMade cells kind n base
    by_place None p t e = absurd (differ (same_reply NoSpace (Base base) e))
      where
        differ : NoSpace ≡ Base base → ⊥
        differ e = cc
    by_place (Some found) p t e =
        let same : found ≡ base = (let reply = same_reply (Base found) (Base base) e in cc) in
        record {
          some = grind (arith, nat_tests);
          placed = p ∙ ap Some same;
          made = ap (λ b. (cond b (only_tells cells BadLength) (allocate_at cells kind n (place n cells))).cells) t
              ∙ ap (λ o. (allocate_at cells kind n o).cells) (p ∙ ap Some same);
        }

    by_test : (b : Bool) → (n == 0) ≡ b
        → (cond b (only_tells cells BadLength) (allocate_at cells kind n (place n cells))).entry ≡ Answered (Base base)
        → IsMade cells kind n base
    by_test true t e = absurd (differ (same_reply BadLength (Base base) e))
      where
        differ : BadLength ≡ Base base → ⊥
        differ e = cc
    by_test false t e = by_place (place n cells) refl t e

allocate-no_space : (cells : List (Option Held)) (kind : Kind) (n : ℕ) → (allocate cells kind n).entry
    ≡ Answered NoSpace → (base : ℕ)
    → is_free cells base n ≡ false
allocate-no_space cells kind n = by_test (n == 0) refl
  where
    by_place : (o : Option ℕ) → place n cells ≡ o → (n == 0) ≡ false → (allocate_at cells kind n o).entry
        ≡ Answered NoSpace → (base : ℕ)
        → is_free cells base n ≡ false
    by_place None p t e = place-none n cells (grind (arith, nat_tests)) p
    by_place (Some found) p t e = absurd (differ (same_reply (Base found) NoSpace e))
      where
        differ : Base found ≡ NoSpace → ⊥
        differ e = cc

    by_test : (b : Bool) → (n == 0) ≡ b
        → (cond b (only_tells cells BadLength) (allocate_at cells kind n (place n cells))).entry ≡ Answered NoSpace
        → (base : ℕ) → is_free cells base n ≡ false
    by_test true t e = absurd (differ (same_reply BadLength NoSpace e))
      where
        differ : BadLength ≡ NoSpace → ⊥
        differ e = cc
    by_test false t e = by_place (place n cells) refl t e

-- a new request to allocate
module _ (m : Contents) (r : Request) (kind : Kind) (n : ℕ) where
  is_made : (base : ℕ) → IsServed m r (Alloc kind n) (Answered (Base base)) → IsMade m.cells kind n base
  is_made base served = allocate-base m.cells kind n base
      (served-entry m r (Alloc kind n) (Answered (Base base)) served)

  pub allocation-least : (base : ℕ) → IsServed m r (Alloc kind n) (Answered (Base base)) → IsLeastFree m.cells n base
  allocation-least base served = place-least n m.cells base (is_made base served).placed

  pub allocation-cells : (base a : ℕ) → IsServed m r (Alloc kind n) (Answered (Base base)) → base ≤ a → a < base + n
      → held_at (after_request m r).cells a ≡ Some (empty_cell (record { base = base; length = n; kind = kind }))
  allocation-cells base a served lo hi =
      let fits = place-fits n m.cells base (is_made base served).placed in
      ap (λ (s : Stepped). held_at s.contents.cells a) (new-served m r (Alloc kind n) served.is_new)
      ∙ ap (λ cells. held_at cells a) (is_made base served).made
      ∙ get_or-fill_in m.cells base n (new_cell base n kind) a lo hi (omega arith)

  pub allocation-no_space : (base : ℕ) → IsServed m r (Alloc kind n) (Answered NoSpace) → is_free m.cells base n ≡ false
  allocation-no_space base served = allocate-no_space m.cells kind n
      (served-entry m r (Alloc kind n) (Answered NoSpace) served) base

-- a block whose cells became these
pub record IsLeft (cells : List (Option Held)) (a : ℕ) (after : Block → List (Option Held))
    (reply : Reply) : Type 0 where
  pub block : Block
  pub there : block_at cells a ≡ Some block
  pub nobody : list_any is_waiting_cell (take block.length (drop a cells)) ≡ false
  pub left : (unless_waited_for after reply cells a (block_with_base a (held_at cells a))).cells ≡ after block

left-by : (cells : List (Option Held)) (a : ℕ) (after : Block → List (Option Held)) (reply : Reply)
    → (NoBlock ≡ reply → ⊥) → (StillWaiting ≡ reply → ⊥)
    → (unless_waited_for after reply cells a (block_with_base a (held_at cells a))).entry ≡ Answered reply
    → IsLeft cells a after reply
left-by cells a after reply no_block still_waiting = by_held (held_at cells a) refl
  where
    not_told : (told : Reply) → (told ≡ reply → ⊥) → Answered told ≡ Answered reply → ⊥
    not_told told other e = other (same_reply told reply e)

    by_waiting : (held : Held) → held_at cells a ≡ Some held → block_with_base a (held_at cells a) ≡ Some held.block
        → (t : Bool)
        → list_any is_waiting_cell (take held.block.length (drop a cells)) ≡ t
        → (cond t (only_tells cells StillWaiting)
        (record { cells = after held.block; entry = Answered reply; resumed = [] })).entry ≡ Answered reply
        → IsLeft cells a after reply
    by_waiting held at is true t e = absurd (not_told StillWaiting still_waiting e)
    by_waiting held at is false t e = record {
      block = held.block;
      there = ap (option_map (λ (held : Held). held.block)) at;
      nobody = t;
      left = ap (λ o. (unless_waited_for after reply cells a o).cells) is
          ∙ ap (λ b. (cond b (only_tells cells StillWaiting)
          (record { cells = after held.block; entry = Answered reply; resumed = [] })).cells) t;
    }

    by_base : (held : Held) → held_at cells a ≡ Some held → (t : Bool) → (held.block.base == a) ≡ t
        → (unless_waited_for after reply cells a (cond t (Some held.block) None)).entry ≡ Answered reply
        → IsLeft cells a after reply
    by_base held at true t e =
        by_waiting held at (ap (block_with_base a) at ∙ ap (λ b. cond b (Some held.block) None) t)
        (list_any is_waiting_cell (take held.block.length (drop a cells))) refl e
    by_base held at false t e = absurd (not_told NoBlock no_block e)

    by_held : (o : Option Held) → held_at cells a ≡ o
        → (unless_waited_for after reply cells a (block_with_base a o)).entry ≡ Answered reply
        → IsLeft cells a after reply
    by_held None at e = absurd (not_told NoBlock no_block e)
    by_held (Some held) at e = by_base held at (held.block.base == a) refl e

-- a cell of a block whose cells became others
module _ (cells : List (Option Held)) (a : ℕ) (after : Block → List (Option Held)) (reply : Reply)
    (blocks : HasBlocks cells) (is_left : IsLeft cells a after reply)
    (b : ℕ) (block : Block) (here : block_at cells b ≡ Some block) (base : block.base ≡ a) where
  same_block : is_left.block ≡ block
  same_block =
      let within = blocks.within b block here in
      let low = within.0 in
      let high = within.1 in
      some_same is_left.block block (sym is_left.there ∙ blocks.whole b block here a (omega arith) (omega arith))

  in_range : (a ≤ b) × (b < a + is_left.block.length) × (b < length cells)
  in_range =
      let within = blocks.within b block here in
      let low = within.0 in
      let high = within.1 in
      let top = within.2 in
      let long : is_left.block.length ≡ block.length = ap (λ (block : Block). block.length) same_block in
      (omega arith, omega arith, omega arith)

  nobody_left : waiters_at cells b ≡ []
  nobody_left = nobody_waits cells a is_left.block.length is_left.nobody b in_range.0 in_range.1

-- a new request to release that is told so, and a cell of the block
module _ (m : Contents) (r : Request) (a : ℕ) (blocks : HasBlocks m.cells)
    (served : IsServed m r (Release a) (Answered Released))
    (b : ℕ) (block : Block) (here : block_at m.cells b ≡ Some block) (base : block.base ≡ a) where
  no_block : NoBlock ≡ Released → ⊥
  no_block e = cc

  still_waiting : StillWaiting ≡ Released → ⊥
  still_waiting e = cc

  released : IsLeft m.cells a (λ block. fill m.cells a block.length None) Released
  released = left-by m.cells a (λ block. fill m.cells a block.length None) Released no_block still_waiting
      (served-entry m r (Release a) (Answered Released) served)

  pub release-frees : held_at (after_request m r).cells b ≡ None
  release-frees =
      let range = in_range m.cells a _ Released blocks released b block here base in
      ap (λ (s : Stepped). held_at s.contents.cells b) (new-served m r (Release a) served.is_new)
      ∙ ap (λ cells. held_at cells b) released.left
      ∙ get_or-fill_in m.cells a released.block.length None b range.0 range.1 range.2

  pub release-nobody : waiters_at m.cells b ≡ []
  release-nobody = nobody_left m.cells a _ Released blocks released b block here base

-- a new request to reset that is told so, and a cell of the block
module _ (m : Contents) (r : Request) (a : ℕ) (blocks : HasBlocks m.cells)
    (served : IsServed m r (Reset a) (Answered Cleared))
    (b : ℕ) (block : Block) (here : block_at m.cells b ≡ Some block) (base : block.base ≡ a) where
  none_to_clear : NoBlock ≡ Cleared → ⊥
  none_to_clear e = cc

  waited_for : StillWaiting ≡ Cleared → ⊥
  waited_for e = cc

  cleared : IsLeft m.cells a (λ block. change_each emptied m.cells a block.length) Cleared
  cleared = left-by m.cells a (λ block. change_each emptied m.cells a block.length) Cleared none_to_clear waited_for
      (served-entry m r (Reset a) (Answered Cleared) served)

  pub reset-empties : held_at (after_request m r).cells b ≡ Some (empty_cell block)
  reset-empties =
      let range = in_range m.cells a _ Cleared blocks cleared b block here base in
      ap (λ (s : Stepped). held_at s.contents.cells b) (new-served m r (Reset a) served.is_new)
      ∙ ap (λ cells. held_at cells b) cleared.left
      ∙ get_or-change_each_in emptied m.cells a cleared.block.length b range.0 range.1 range.2
      ∙ by_held (held_at m.cells b) refl
    where
      by_held : (o : Option Held) → held_at m.cells b ≡ o → emptied (held_at m.cells b) ≡ Some (empty_cell block)
      by_held None at = absurd (some_none block (sym here ∙ ap (option_map (λ (held : Held). held.block)) at))
      by_held (Some held) at =
          ap emptied at ∙ ap (λ block. Some (empty_cell block))
          (some_same held.block block (sym (ap (option_map (λ (held : Held). held.block)) at) ∙ here))

  pub reset-nobody : waiters_at m.cells b ≡ []
  reset-nobody = nobody_left m.cells a _ Cleared blocks cleared b block here base
