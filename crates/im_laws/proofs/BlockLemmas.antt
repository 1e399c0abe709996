-- Each operation keeps that blocks lie below the cell count and don't overlap.
use Rattle.std.proofs.Common.{◌≡◌, ℕ, zero, suc, ◌+◌, ◌<◌, ◌≤◌, Bool, true, false, cond, List, [], ◌∷◌, length, get_or}
use Rattle.std.proofs.Common.{take, drop, set, ◌==◌, Some, None, Option, option_map, sym, refl, ap, ◌∙◌, subst, ⊎_elim}
use Rattle.std.proofs.Common.{arith, length-set}
use Rattle.std.{proofs.lemmas.Bool.Decides.nat_tests, specs.List.list_any}
use Rattle.im_types.specs.Types.{Kind, Op, Reply, Waiter, Block, Answered, I, M, Alloc, Release, Reset, Fetch, Store}
use Rattle.im_types.specs.Types.{Take, Put, BadLength, WrongKind, Released, StillWaiting, Cleared, CellState, Empty}
use Rattle.im_types.specs.Types.{Held, held_at, block_at, HasBlocks, begins_free, place, fill, change_each}
use Rattle.im_types.specs.Types.{ServedCell as Served, fetch, store, take_from, put, only_tells, same_kind, serve_cell}
use Rattle.im_types.specs.Types.{at_cell, allocate_at, allocate, block_with_base, is_waiting_cell, unless_waited_for}
use Rattle.im_types.specs.Types.{release_block, emptied, reset_block, act}
use Rattle.im_laws.proofs.{AgreementLemmas.held_at-set, AgreementLemmas.held_at-within, PlaceLemmas.get_or-change_each}
use Rattle.im_laws.proofs.{PlaceLemmas.get_or-fill, PlaceLemmas.place-free, Tests.some_none, Tests.some_same}
use Rattle.im_laws.specs.Blocks.{LiesIn}

-- the same blocks at the same addresses
pub HasBlocks-same : (cells now : List (Option Held)) → ((b : ℕ) → block_at now b ≡ block_at cells b) → length now
    ≡ length cells
    → HasBlocks cells → HasBlocks now
HasBlocks-same cells now same len blocks = record {
  within = λ a block is. let w = blocks.within a block (sym (same a) ∙ is) in (w.0, w.1, omega arith);
  whole = λ a block is b lo hi. same b ∙ blocks.whole a block (sym (same a) ∙ is) b lo hi;
}

pub HasBlocks-set : (cells : List (Option Held)) (a : ℕ) (held : Held) (state : CellState) → held_at cells a
    ≡ Some held → HasBlocks cells
    → HasBlocks (set cells a (Some (record { block = held.block; state = state })))
HasBlocks-set cells a held state at blocks = HasBlocks-same cells _ same (length-set cells a _) blocks
  where
    same : (b : ℕ) → block_at (set cells a (Some (record { block = held.block; state = state }))) b ≡ block_at cells b
    same b = ⊎_elim
        (λ h. ap (option_map (λ (held : Held). held.block)) h.1
        ∙ sym (ap (option_map (λ (held : Held). held.block)) (ap (held_at cells) h.0 ∙ at)))
        (λ h. ap (option_map (λ (held : Held). held.block)) h.1)
        (held_at-set cells a b (Some (record { block = held.block; state = state })) (held_at-within cells a held at))

pub length-fill : {X : Type 0} (xs : List (Option X)) (base n : ℕ) (x : Option X) → length (fill xs base n x)
    ≡ length xs
length-fill [] base n x = refl
length-fill (y ∷ xs) zero zero x = refl
length-fill (y ∷ xs) zero (suc n) x = ap suc (length-fill xs zero n x)
length-fill (y ∷ xs) (suc base) n x = ap suc (length-fill xs base n x)

pub get_or-fill_in : {X : Type 0} (xs : List (Option X)) (base n : ℕ) (x : Option X) (a : ℕ) → base ≤ a
    → a < base + n → a < length xs
    → get_or (fill xs base n x) a None ≡ x
get_or-fill_in [] base n x a lo hi h = absurd (omega arith)
get_or-fill_in (y ∷ xs) zero zero x a lo hi h = absurd (omega arith)
get_or-fill_in (y ∷ xs) zero (suc n) x zero lo hi h = refl
get_or-fill_in (y ∷ xs) zero (suc n) x (suc a) lo hi h = get_or-fill_in xs zero n x a (omega arith) (omega arith)
    (omega arith)
get_or-fill_in (y ∷ xs) (suc base) n x zero lo hi h = absurd (omega arith)
get_or-fill_in (y ∷ xs) (suc base) n x (suc a) lo hi h = get_or-fill_in xs base n x a (omega arith) (omega arith)
    (omega arith)

-- a place that was found lies below the cell count
begins_free-fits : {X : Type 0} (n : ℕ) (xs : List (Option X)) → begins_free n xs ≡ true → n ≤ length xs
begins_free-fits zero xs e = omega arith
begins_free-fits (suc n) [] e = absurd (cc)
begins_free-fits (suc n) (None ∷ xs) e = let h = begins_free-fits n xs e in omega arith
begins_free-fits (suc n) (Some x ∷ xs) e = absurd (cc)

place-fits_step : {X : Type 0} (n : ℕ) (x : Option X) (xs : List (Option X))
    → ((b : ℕ) → place n xs ≡ Some b → b + n ≤ length xs)
    → (t : Bool) → begins_free n (x ∷ xs) ≡ t → (o : Option ℕ) → place n xs ≡ o → (base : ℕ)
    → cond t (Some 0) (option_map suc o) ≡ Some base → base + n ≤ suc (length xs)
place-fits_step n x xs further true t o p base e = let at_start : 0
    ≡ base = cc in let h : n ≤ suc (length xs) = begins_free-fits n (x ∷ xs) t in omega arith
place-fits_step n x xs further false t None p base e = absurd (cc)
place-fits_step n x xs further false t (Some b) p base e = let later : suc b
    ≡ base = cc in let h = further b p in omega arith

pub place-fits : {X : Type 0} (n : ℕ) (xs : List (Option X)) (base : ℕ) → place n xs ≡ Some base → base + n ≤ length xs
place-fits n [] base e = absurd (cc)
place-fits n (x ∷ xs) base e = place-fits_step n x xs (place-fits n xs) (begins_free n (x ∷ xs)) refl
    (place n xs) refl base e

abbrev blocks_of : Option Held → Option Block
blocks_of held = option_map (λ (held : Held). held.block) held

-- a new block, where there was none
pub HasBlocks-allocate : (cells : List (Option Held)) (base n : ℕ) (block : Block) (state : CellState) → block.base
    ≡ base
    → block.length ≡ n → place n cells ≡ Some base
    → HasBlocks cells → HasBlocks (fill cells base n (Some (record { block = block; state = state })))
HasBlocks-allocate cells base n block state at long e blocks = record {
  within = λ a b is. ⊎_elim
      (λ same. let w = blocks.within a b (sym (ap blocks_of same) ∙ is) in (w.0, w.1, omega (arith, len)))
      (λ h. let mine : block ≡ b = some_same block b (sym (ap blocks_of h.2) ∙ is) in
      let p = ap (λ (b : Block). b.base) mine in let q = ap (λ (b : Block). b.length) mine in
      (omega arith, omega arith, omega (arith, len, fits)))
      (get_or-fill cells base n new a);
  whole = λ a b is c lo hi. ⊎_elim
      (λ same. ⊎_elim
      (λ same_c. ap blocks_of same_c ∙ blocks.whole a b (sym (ap blocks_of same) ∙ is) c lo hi)
      (λ h. absurd (some_none b
      (sym (blocks.whole a b (sym (ap blocks_of same) ∙ is) c lo hi)
      ∙ ap blocks_of (place-free n cells base e c h.0 h.1))))
      (get_or-fill cells base n new c))
      (λ h. let mine : block ≡ b = some_same block b (sym (ap blocks_of h.2) ∙ is) in
      let p = ap (λ (b : Block). b.base) mine in let q = ap (λ (b : Block). b.length) mine in
      ap blocks_of (get_or-fill_in cells base n new c (omega arith) (omega arith) (omega (arith, fits))) ∙ ap Some mine)
      (get_or-fill cells base n new a);
}
  where
    new : Option Held
    new = Some (record { block = block; state = state })

    len : length (fill cells base n new) ≡ length cells
    len = length-fill cells base n new

    fits : base + n ≤ length cells
    fits = place-fits n cells base e

-- a block is gone
pub HasBlocks-release : (cells : List (Option Held)) (block : Block) → block_at cells block.base ≡ Some block
    → HasBlocks cells
    → HasBlocks (fill cells block.base block.length None)
HasBlocks-release cells block at blocks = record {
  within = λ a b is. ⊎_elim
      (λ same. let w = blocks.within a b (sym (ap blocks_of same) ∙ is) in (w.0, w.1, omega (arith, len)))
      (λ h. absurd (some_none b (sym is ∙ ap blocks_of h.2)))
      (get_or-fill cells block.base block.length None a);
  whole = λ a b is c lo hi. ⊎_elim
      (λ same. ⊎_elim
      (λ same_c. ap blocks_of same_c ∙ blocks.whole a b (sym (ap blocks_of same) ∙ is) c lo hi)
      (λ h.
      let was = sym (ap blocks_of same) ∙ is in
      let mine : b ≡ block = some_same b block
      (sym (blocks.whole a b was c lo hi) ∙ blocks.whole block.base block at c h.0 h.1) in
      let p = ap (λ (b : Block). b.base) mine in
      let q = ap (λ (b : Block). b.length) mine in
      let w = blocks.within a b was in
      absurd (some_none b
      (sym is ∙ ap blocks_of
      (get_or-fill_in cells block.base block.length None a (omega arith) (omega arith) (omega arith)))))
      (get_or-fill cells block.base block.length None c))
      (λ h. absurd (some_none b (sym is ∙ ap blocks_of h.2)))
      (get_or-fill cells block.base block.length None a);
}
  where
    len : length (fill cells block.base block.length None) ≡ length cells
    len = length-fill cells block.base block.length None

-- a block's cells are empty
pub length-change_each : {X : Type 0} (change : Option X → Option X) (xs : List (Option X)) (base n : ℕ)
    → length (change_each change xs base n) ≡ length xs
length-change_each change [] base n = refl
length-change_each change (y ∷ xs) zero zero = refl
length-change_each change (y ∷ xs) zero (suc n) = ap suc (length-change_each change xs zero n)
length-change_each change (y ∷ xs) (suc base) n = ap suc (length-change_each change xs base n)

pub HasBlocks-emptied : (cells : List (Option Held)) (base n : ℕ) → HasBlocks cells
    → HasBlocks (change_each emptied cells base n)
HasBlocks-emptied cells base n blocks = HasBlocks-same cells _ same (length-change_each emptied cells base n) blocks
  where
    own : (o : Option Held) → blocks_of (emptied o) ≡ blocks_of o
    own None = refl
    own (Some held) = refl

    same : (b : ℕ) → block_at (change_each emptied cells base n) b ≡ block_at cells b
    same b = ⊎_elim (λ h. ap blocks_of h) (λ h. ap blocks_of h.2 ∙ own (held_at cells b))
        (get_or-change_each emptied cells base n b)

-- each operation
module _ (cells : List (Option Held)) (blocks : HasBlocks cells) where
  at_cell-blocks : (kind : Kind) (f : CellState → Served) (a : ℕ)
      → HasBlocks (at_cell kind f cells a (held_at cells a)).cells
  at_cell-blocks kind f a = by_held (held_at cells a) refl
    where
      by_kind : (held : Held) → held_at cells a ≡ Some held → (b : Bool)
          → HasBlocks (cond b (serve_cell cells a held.block (f held.state)) (only_tells cells WrongKind)).cells
      by_kind held at true = HasBlocks-set cells a held (f held.state).state at blocks
      by_kind held at false = blocks

      by_held : (o : Option Held) → held_at cells a ≡ o → HasBlocks (at_cell kind f cells a o).cells
      by_held None at = blocks
      by_held (Some held) at = by_kind held at (same_kind kind held.block.kind)

  allocate-blocks : (kind : Kind) (n : ℕ) → HasBlocks (allocate cells kind n).cells
  allocate-blocks kind n = by_test (n == 0)
    where
      by_place : (o : Option ℕ) → place n cells ≡ o → HasBlocks (allocate_at cells kind n o).cells
      by_place None e = blocks
      by_place (Some base) e = HasBlocks-allocate cells base n (record { base = base; length = n; kind = kind })
          (Empty []) refl refl e blocks

      by_test : (b : Bool)
          → HasBlocks (cond b (only_tells cells BadLength) (allocate_at cells kind n (place n cells))).cells
      by_test true = blocks
      by_test false = by_place (place n cells) refl

  -- of a block that isn't waited for
  module _ (after : ℕ → Block → List (Option Held)) (reply : Reply)
      (left : (a : ℕ) (held : Held) → held_at cells a ≡ Some held → held.block.base ≡ a
      → HasBlocks (after a held.block)) where
    whole-blocks : (a : ℕ)
        → HasBlocks (unless_waited_for (after a) reply cells a (block_with_base a (held_at cells a))).cells
    whole-blocks a = by_held (held_at cells a) refl
      where
        by_waiting : (held : Held) → held_at cells a ≡ Some held → held.block.base ≡ a → (b : Bool)
            → HasBlocks (cond b (only_tells cells StillWaiting)
            (record { cells = after a held.block; entry = Answered reply; resumed = [] })).cells
        by_waiting held at e true = blocks
        by_waiting held at e false = left a held at e

        by_base : (held : Held) → held_at cells a ≡ Some held → (b : Bool) → (held.block.base == a) ≡ b
            → HasBlocks (unless_waited_for (after a) reply cells a (cond b (Some held.block) None)).cells
        by_base held at true e = let same : held.block.base
            ≡ a = grind (arith, nat_tests) in by_waiting held at same
            (list_any is_waiting_cell (take held.block.length (drop a cells)))
        by_base held at false e = blocks

        by_held : (o : Option Held) → held_at cells a ≡ o
            → HasBlocks (unless_waited_for (after a) reply cells a (block_with_base a o)).cells
        by_held None at = blocks
        by_held (Some held) at = by_base held at (held.block.base == a) refl

  release-blocks : (a : ℕ) → HasBlocks (release_block cells a (block_with_base a (held_at cells a))).cells
  release-blocks a = whole-blocks (λ a block. fill cells a block.length None) Released gone a
    where
      gone : (a : ℕ) (held : Held) → held_at cells a ≡ Some held → held.block.base ≡ a
          → HasBlocks (fill cells a held.block.length None)
      gone a held at e = subst (λ k. HasBlocks (fill cells k held.block.length None)) e
          (HasBlocks-release cells held.block (ap (block_at cells) e ∙ ap blocks_of at) blocks)

  reset-blocks : (a : ℕ) → HasBlocks (reset_block cells a (block_with_base a (held_at cells a))).cells
  reset-blocks a = whole-blocks (λ a block. change_each emptied cells a block.length) Cleared
      (λ a held at e. HasBlocks-emptied cells a held.block.length blocks) a

  pub act-blocks : (who : Waiter) (op : Op) → HasBlocks (act cells who op).cells
  act-blocks who (Alloc kind n) = allocate-blocks kind n
  act-blocks who (Release a) = release-blocks a
  act-blocks who (Reset a) = reset-blocks a
  act-blocks who (Fetch a) = at_cell-blocks I (fetch who) a
  act-blocks who (Store a v) = at_cell-blocks I (store v) a
  act-blocks who (Take a) = at_cell-blocks M (take_from who) a
  act-blocks who (Put a v) = at_cell-blocks M (put v) a

-- each operation leaves as many cells as there were
module _ (cells : List (Option Held)) where
  length-at_cell : (kind : Kind) (f : CellState → Served) (a : ℕ) (o : Option Held)
      → length (at_cell kind f cells a o).cells ≡ length cells
  length-at_cell kind f a None = refl
  length-at_cell kind f a (Some held) = by_kind (same_kind kind held.block.kind)
    where
      by_kind : (b : Bool)
          → length (cond b (serve_cell cells a held.block (f held.state)) (only_tells cells WrongKind)).cells
          ≡ length cells
      by_kind true = length-set cells a _
      by_kind false = refl

  length-allocate : (kind : Kind) (n : ℕ) → length (allocate cells kind n).cells ≡ length cells
  length-allocate kind n = by_test (n == 0)
    where
      by_place : (o : Option ℕ) → length (allocate_at cells kind n o).cells ≡ length cells
      by_place None = refl
      by_place (Some base) = length-fill cells base n _

      by_test : (b : Bool)
          → length (cond b (only_tells cells BadLength) (allocate_at cells kind n (place n cells))).cells ≡ length cells
      by_test true = refl
      by_test false = by_place (place n cells)

  length-whole_block : (after : Block → List (Option Held)) (reply : Reply)
      → ((block : Block) → length (after block) ≡ length cells) → (a : ℕ) (o : Option Block)
      → length (unless_waited_for after reply cells a o).cells ≡ length cells
  length-whole_block after reply same a None = refl
  length-whole_block after reply same a (Some block) = by_test
      (list_any is_waiting_cell (take block.length (drop a cells)))
    where
      by_test : (b : Bool)
          → length (cond b (only_tells cells StillWaiting)
          (record { cells = after block; entry = Answered reply; resumed = [] })).cells ≡ length cells
      by_test true = refl
      by_test false = same block

  pub length-act : (who : Waiter) (op : Op) → length (act cells who op).cells ≡ length cells
  length-act who (Alloc kind n) = length-allocate kind n
  length-act who (Release a) = length-whole_block (λ block. fill cells a block.length None) Released
      (λ block. length-fill cells a block.length None) a (block_with_base a (held_at cells a))
  length-act who (Reset a) = length-whole_block (λ block. change_each emptied cells a block.length) Cleared
      (λ block. length-change_each emptied cells a block.length) a (block_with_base a (held_at cells a))
  length-act who (Fetch a) = length-at_cell I (fetch who) a (held_at cells a)
  length-act who (Store a v) = length-at_cell I (store v) a (held_at cells a)
  length-act who (Take a) = length-at_cell M (take_from who) a (held_at cells a)
  length-act who (Put a v) = length-at_cell M (put v) a (held_at cells a)

-- two blocks that share an address are one
pub blocks-apart : (cells : List (Option Held)) → HasBlocks cells → (a b shared : ℕ) (first second : Block)
    → block_at cells a ≡ Some first
    → block_at cells b ≡ Some second
    → LiesIn shared first → LiesIn shared second → first ≡ second
blocks-apart cells blocks a b shared first second at_a at_b in_first in_second =
    some_same first second
    (sym (blocks.whole a first at_a shared in_first.0 in_first.1)
    ∙ blocks.whole b second at_b shared in_second.0 in_second.1)
