-- What one operation does to one cell that is in a block, and what is kept then.
use Rattle.std.proofs.Common.{◌≡◌, ℕ, suc, ◌+◌, ◌<◌, ◌≤◌, Bool, true, false, cond, ◌&&◌, ◌||◌, ◌≢◌, ◌⊎◌, List, [], ◌∷◌}
use Rattle.std.proofs.Common.{map, take, drop, ◌==◌, Some, None, Option, option_map, sym, refl, ap, ◌∙◌, subst, inl}
use Rattle.std.proofs.Common.{inr, ⊎_elim, arith}
use Rattle.std.{proofs.lemmas.Option.none-some, proofs.lemmas.Option.same_Some, specs.List.list_any}
use Rattle.im_types.specs.Types.{Kind, Op, Reply, Waiter, Block, Answered, I, M, Alloc, Release, Reset, Fetch, Store}
use Rattle.im_types.specs.Types.{Take, Put, BadLength, Value, NoCell, WrongKind, Released, StillWaiting, Cleared}
use Rattle.im_types.specs.Types.{CellState, Empty, Full, Clashed, Held, held_at, waiters_of, waiters_in, block_at}
use Rattle.im_types.specs.Types.{HasBlocks, same_waiter, times, place, fill, change_each, ServedCell as Served, tells}
use Rattle.im_types.specs.Types.{fetch, store, take_from, put, Acted, only_tells, same_kind, serve_cell, at_cell}
use Rattle.im_types.specs.Types.{new_cell, allocate_at, allocate, block_with_base, is_waiting_cell, release_block}
use Rattle.im_types.specs.Types.{emptied, reset_block, act, releases, clears, ends_life}
use Rattle.im_types.proofs.Tests.{true_false}
use Rattle.im_laws.proofs.{StepAgrees.nobody_waits, Tests.and_false, Tests.eq_by_test, Tests.test-self}
use Rattle.im_histories.proofs.Given.{get_or-change_each, get_or-change_each_in, get_or-fill, held_at-set}
use Rattle.im_histories.proofs.Given.{held_at-within, place-free}

-- the operation is for cells of this kind, and for this address
abbrev pub is_for : Kind → ℕ → Op → Bool
is_for kind a (Alloc k n) = false
is_for kind a (Release b) = false
is_for kind a (Reset b) = false
is_for kind a (Fetch b) = same_kind I kind && (a == b)
is_for kind a (Store b v) = same_kind I kind && (a == b)
is_for kind a (Take b) = same_kind M kind && (a == b)
is_for kind a (Put b v) = same_kind M kind && (a == b)

-- what an operation does to a cell that it is for
abbrev pub serve_op : Waiter → Op → CellState → Served
serve_op who (Alloc k n) state = tells NoCell state
serve_op who (Release b) state = tells NoCell state
serve_op who (Reset b) state = tells NoCell state
serve_op who (Fetch b) state = fetch who state
serve_op who (Store b v) state = store v state
serve_op who (Take b) state = take_from who state
serve_op who (Put b v) state = put v state

-- whom it answers besides, and how
abbrev pub answered_by : Op → CellState → List Waiter
answered_by (Store b v) (Empty readers) = readers
answered_by (Put b v) (Empty (taker ∷ takers)) = taker ∷ []
answered_by op state = []

abbrev pub given_by : Op → Reply
given_by (Store b v) = Value v
given_by (Put b v) = Value v
given_by op = NoCell

pub resumed_by_serve : (who : Waiter) (op : Op) (state : CellState) → (serve_op who op state).resumed
    ≡ map (λ w. (w, given_by op)) (answered_by op state)
resumed_by_serve who (Alloc k n) state = refl
resumed_by_serve who (Release b) state = refl
resumed_by_serve who (Reset b) state = refl
resumed_by_serve who (Fetch b) (Empty waiters) = refl
resumed_by_serve who (Fetch b) (Full v) = refl
resumed_by_serve who (Fetch b) (Clashed v) = refl
resumed_by_serve who (Store b v) (Empty readers) = refl
resumed_by_serve who (Store b v) (Full w) = refl
resumed_by_serve who (Store b v) (Clashed w) = refl
resumed_by_serve who (Take b) (Empty waiters) = refl
resumed_by_serve who (Take b) (Full v) = refl
resumed_by_serve who (Take b) (Clashed v) = refl
resumed_by_serve who (Put b v) (Empty []) = refl
resumed_by_serve who (Put b v) (Empty (taker ∷ takers)) = refl
resumed_by_serve who (Put b v) (Full w) = refl
resumed_by_serve who (Put b v) (Clashed w) = refl

first_waits : (who taker : Waiter) (takers : List Waiter) → 1 ≤ times who (taker ∷ []) → 1 ≤ times who (taker ∷ takers)
first_waits who taker takers = by_test (same_waiter who taker)
  where
    by_test : (t : Bool) → 1 ≤ cond t 1 0 → 1 ≤ cond t (suc (times who takers)) (times who takers)
    by_test true h = omega arith
    by_test false h = absurd (omega arith)

-- they have waited
pub answered_have_waited : (op : Op) (state : CellState) (who : Waiter) → 1 ≤ times who (answered_by op state)
    → 1 ≤ times who (waiters_of state)
answered_have_waited (Store b v) (Empty readers) who some = some
answered_have_waited (Put b v) (Empty (taker ∷ takers)) who some = first_waits who taker takers some
answered_have_waited op state who some = absurd (omega arith)

-- an operation meets a cell: it leaves the cell; or it serves it; or it releases or empties the cell's block, and nobody waits there
pub data Meets (a : ℕ) (held : Held) (who : Waiter) (op : Op) (cells : List (Option Held))
    (acted : Acted) : Type 0 where
  Passes : is_for held.block.kind a op ≡ false → ends_life held.block.base op acted.entry ≡ false
      → held_at acted.cells a ≡ Some held → Meets a held who op cells acted
  Serves : is_for held.block.kind a op ≡ true → ends_life held.block.base op acted.entry ≡ false → acted
      ≡ serve_cell cells a held.block (serve_op who op held.state) → Meets a held who op cells acted
  Frees : releases held.block.base op acted.entry ≡ true → waiters_of held.state ≡ [] → Meets a held who op cells acted
  Clears : releases held.block.base op acted.entry ≡ false → clears held.block.base op acted.entry ≡ true
      → waiters_of held.state ≡ []
      → held_at acted.cells a ≡ emptied (Some held) → Meets a held who op cells acted

abbrev blocks_of : Option Held → Option Block
blocks_of held = option_map (λ (held : Held). held.block) held

module _ (cells : List (Option Held)) (blocks : HasBlocks cells) (a : ℕ) (held : Held)
    (at : held_at cells a ≡ Some held) where
  -- an operation on cells of a kind, at an address
  at_address : (kind : Kind) (f : CellState → Served) (b : ℕ)
      → ((same_kind kind held.block.kind && (a == b)) ≡ false)
      × (held_at (at_cell kind f cells b (held_at cells b)).cells a ≡ Some held)
      ⊎ ((same_kind kind held.block.kind && (a == b)) ≡ true)
      × (at_cell kind f cells b (held_at cells b) ≡ serve_cell cells a held.block (f held.state))
  at_address kind f b = by_test (a == b) refl
    where
      other_cell : a ≢ b → (o : Option Held) → held_at cells b ≡ o → held_at (at_cell kind f cells b o).cells a
          ≡ Some held
      other_cell apart None e = at
      other_cell apart (Some other) e = by_kind (same_kind kind other.block.kind)
        where
          by_kind : (t : Bool)
              → held_at (cond t (serve_cell cells b other.block (f other.state))
              (only_tells cells WrongKind)).cells a ≡ Some held
          by_kind true = ⊎_elim (λ h. absurd (apart h.0)) (λ h. h.1 ∙ at)
              (held_at-set cells b a (Some (record { block = other.block; state = (f other.state).state }))
              (held_at-within cells b other e))
          by_kind false = at

      this_cell : (t : Bool) → (same_kind kind held.block.kind) ≡ t
          → ((t && true) ≡ false)
          × (held_at (cond t (serve_cell cells a held.block (f held.state)) (only_tells cells WrongKind)).cells a
          ≡ Some held)
          ⊎ ((t && true) ≡ true)
          × (cond t (serve_cell cells a held.block (f held.state)) (only_tells cells WrongKind)
          ≡ serve_cell cells a held.block (f held.state))
      this_cell true k = inr (refl, refl)
      this_cell false k = inl (refl, at)

      by_test : (t : Bool) → (a == b) ≡ t
          → ((same_kind kind held.block.kind && t) ≡ false)
          × (held_at (at_cell kind f cells b (held_at cells b)).cells a ≡ Some held)
          ⊎ ((same_kind kind held.block.kind && t) ≡ true)
          × (at_cell kind f cells b (held_at cells b) ≡ serve_cell cells a held.block (f held.state))
      by_test true e =
          let here : Some held ≡ held_at cells b = sym at ∙ ap (held_at cells) (eq_by_test a b e) in
          let there = eq_by_test a b e in
          subst (λ c. ((same_kind kind held.block.kind && true) ≡ false)
          × (held_at (at_cell kind f cells c (held_at cells c)).cells a ≡ Some held)
          ⊎ ((same_kind kind held.block.kind && true) ≡ true)
          × (at_cell kind f cells c (held_at cells c) ≡ serve_cell cells a held.block (f held.state))) there
          (subst (λ o. ((same_kind kind held.block.kind && true) ≡ false)
          × (held_at (at_cell kind f cells a o).cells a ≡ Some held)
          ⊎ ((same_kind kind held.block.kind && true) ≡ true)
          × (at_cell kind f cells a o ≡ serve_cell cells a held.block (f held.state))) (sym at)
          (this_cell (same_kind kind held.block.kind) refl))
      by_test false e = inl (
        and_false (same_kind kind held.block.kind),
        other_cell
            (λ same. true_false (sym (test-self a) ∙ ap (λ c. a == c) same ∙ e)) (held_at cells b) refl,
      )

  -- a new block is elsewhere
  meets_allocate : (who : Waiter) (kind : Kind) (n : ℕ) → Meets a held who (Alloc kind n) cells (allocate cells kind n)
  meets_allocate who kind n = by_test (n == 0)
    where
      by_place : (o : Option ℕ) → place n cells ≡ o → Meets a held who (Alloc kind n) cells (allocate_at cells kind n o)
      by_place None e = Passes refl refl at
      by_place (Some base) e = Passes refl refl (⊎_elim
          (λ same. same ∙ at)
          (λ h. absurd (none-some held (sym (place-free n cells base e a h.0 h.1) ∙ at)))
          (get_or-fill cells base n (new_cell base n kind) a))

      by_test : (t : Bool)
          → Meets a held who (Alloc kind n) cells
          (cond t (only_tells cells BadLength) (allocate_at cells kind n (place n cells)))
      by_test true = Passes refl refl at
      by_test false = by_place (place n cells) refl

  in_block : block_at cells a ≡ Some held.block
  in_block = ap blocks_of at

  -- a block that is released or emptied is the cell's own, or elsewhere
  module _ (who : Waiter) (b : ℕ) (other : Held) (there : held_at cells b ≡ Some other)
      (base : other.block.base ≡ b) where
    own_block : held.block.base ≡ b → held.block ≡ other.block
    own_block e =
        let w = blocks.within a held.block in_block in
        same_Some held.block other.block
        (sym (blocks.whole a held.block in_block b (omega arith) (omega arith)) ∙ ap blocks_of there)

    elsewhere : (held.block.base == b) ≡ false → b ≤ a → a < b + other.block.length → ⊥
    elsewhere e lo hi =
        let same = same_Some other.block held.block
        (sym (blocks.whole b other.block (ap blocks_of there) a (omega arith) (omega arith)) ∙ in_block) in
        true_false (sym (test-self b) ∙ ap (λ c. c == b) (sym base ∙ ap (λ (block : Block). block.base) same) ∙ e)

    released_elsewhere : (held.block.base == b) ≡ false → held_at (fill cells b other.block.length None) a ≡ Some held
    released_elsewhere e = ⊎_elim (λ same. same ∙ at) (λ h. absurd (elsewhere e h.0 h.1))
        (get_or-fill cells b other.block.length None a)

    emptied_elsewhere : (held.block.base == b) ≡ false → held_at (change_each emptied cells b other.block.length) a
        ≡ Some held
    emptied_elsewhere e = ⊎_elim (λ same. same ∙ at) (λ h. absurd (elsewhere e h.0 h.1))
        (get_or-change_each emptied cells b other.block.length a)

    emptied_here : held.block.base ≡ b → held_at (change_each emptied cells b other.block.length) a
        ≡ emptied (Some held)
    emptied_here e =
        let w = blocks.within a held.block in_block in
        let l = ap (λ (block : Block). block.length) (own_block e) in
        get_or-change_each_in emptied cells b other.block.length a (omega arith) (omega arith)
        (held_at-within cells a held at) ∙ ap emptied at

    nobody : held.block.base ≡ b → list_any is_waiting_cell (take other.block.length (drop b cells)) ≡ false
        → waiters_of held.state ≡ []
    nobody e quiet =
        let w = blocks.within a held.block in_block in
        let l = ap (λ (block : Block). block.length) (own_block e) in
        sym (ap waiters_in at) ∙ nobody_waits cells b other.block.length quiet a (omega arith) (omega arith)

    released_own : list_any is_waiting_cell (take other.block.length (drop b cells)) ≡ false → (t : Bool)
        → (held.block.base == b) ≡ t
        → Meets a held who (Release b) cells
        (record { cells = fill cells b other.block.length None; entry = Answered Released; resumed = [] })
    released_own quiet true e = Frees e (nobody (eq_by_test held.block.base b e) quiet)
    released_own quiet false e = Passes refl (ap (λ t. t || false) e) (released_elsewhere e)

    released_unless : (t : Bool) → list_any is_waiting_cell (take other.block.length (drop b cells)) ≡ t
        → Meets a held who (Release b) cells
        (cond t (only_tells cells StillWaiting)
        (record { cells = fill cells b other.block.length None; entry = Answered Released; resumed = [] }))
    released_unless true e = Passes refl refl at
    released_unless false e = released_own e (held.block.base == b) refl

    cleared_own : list_any is_waiting_cell (take other.block.length (drop b cells)) ≡ false → (t : Bool)
        → (held.block.base == b) ≡ t
        → Meets a held who (Reset b) cells
        (record { cells = change_each emptied cells b other.block.length; entry = Answered Cleared; resumed = [] })
    cleared_own quiet true e = let same = eq_by_test held.block.base b e in Clears refl e (nobody same quiet)
        (emptied_here same)
    cleared_own quiet false e = Passes refl e (emptied_elsewhere e)

    cleared_unless : (t : Bool) → list_any is_waiting_cell (take other.block.length (drop b cells)) ≡ t
        → Meets a held who (Reset b) cells
        (cond t (only_tells cells StillWaiting)
        (record { cells = change_each emptied cells b other.block.length; entry = Answered Cleared; resumed = [] }))
    cleared_unless true e = Passes refl refl at
    cleared_unless false e = cleared_own e (held.block.base == b) refl

  -- an operation on the block with a base, where it passes if there is none
  meets_block : (who : Waiter) (b : ℕ) (op : Op) (acts : Option Block → Acted) → Meets a held who op cells (acts None)
      → ((other : Held) → held_at cells b ≡ Some other → other.block.base ≡ b
      → Meets a held who op cells (acts (Some other.block)))
      → Meets a held who op cells (acts (block_with_base b (held_at cells b)))
  meets_block who b op acts none some = by_held (held_at cells b) refl
    where
      by_base : (other : Held) → held_at cells b ≡ Some other → (t : Bool) → (other.block.base == b) ≡ t
          → Meets a held who op cells (acts (cond t (Some other.block) None))
      by_base other there true e = some other there (eq_by_test other.block.base b e)
      by_base other there false e = none

      by_held : (o : Option Held) → held_at cells b ≡ o → Meets a held who op cells (acts (block_with_base b o))
      by_held None there = none
      by_held (Some other) there = by_base other there (other.block.base == b) refl

  -- each operation
  pub meets : (who : Waiter) (op : Op) → Meets a held who op cells (act cells who op)
  meets who (Alloc kind n) = meets_allocate who kind n
  meets who (Release b) = meets_block who b (Release b) (release_block cells b) (Passes refl refl at)
      (λ other there base. released_unless who b other there base _ refl)
  meets who (Reset b) = meets_block who b (Reset b) (reset_block cells b) (Passes refl refl at)
      (λ other there base. cleared_unless who b other there base _ refl)
  meets who (Fetch b) = ⊎_elim (λ h. Passes h.0 refl h.1) (λ h. Serves h.0 refl h.1) (at_address I (fetch who) b)
  meets who (Store b v) = ⊎_elim (λ h. Passes h.0 refl h.1) (λ h. Serves h.0 refl h.1) (at_address I (store v) b)
  meets who (Take b) = ⊎_elim (λ h. Passes h.0 refl h.1) (λ h. Serves h.0 refl h.1) (at_address M (take_from who) b)
  meets who (Put b v) = ⊎_elim (λ h. Passes h.0 refl h.1) (λ h. Serves h.0 refl h.1) (at_address M (put v) b)
