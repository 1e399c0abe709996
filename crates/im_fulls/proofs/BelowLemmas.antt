-- A change is of the memory's own cells.
use Rattle.std.proofs.Common.{◌≡◌, ℕ, suc, ◌+◌, ◌<◌, ◌≤◌, Bool, true, false, cond, List, [], ◌∷◌, ◌++◌, length, take}
use Rattle.std.proofs.Common.{drop, nat_lt, ◌==◌, Some, None, Option, option_map, refl, ap, arith}
use Rattle.std.{proofs.lemmas.Bool.Decides.nat_tests, specs.List.AllByRecursion, specs.List.list_any}
use Rattle.im_types.specs.Types.{Op, Block, I, Alloc, Release, Reset, Fetch, Store, Take, Put, Command, Asks, Confirm}
use Rattle.im_types.specs.Types.{CellState, Empty, Full, Clashed, Held, Contents, held_at, full_in, HasBlocks}
use Rattle.im_types.specs.Types.{same_kind, block_with_base, is_waiting_cell, is_below, store_change, store_change_in}
use Rattle.im_types.specs.Types.{emptying_change, change_of, change_by, fill_at, fills_from, opening, Same, Gone}
use Rattle.im_laws.proofs.AgreementLemmas.{held_at-within}

below : (n a : ℕ) → a < n → nat_lt a n ≡ true
below n a h = grind (arith, nat_tests)

gone-below : (n base k : ℕ) → base + k ≤ n → is_below n (Gone base k) ≡ true
gone-below n base k h = by_test (nat_lt n (base + k)) refl
  where
    by_test : (t : Bool) → nat_lt n (base + k) ≡ t → cond t false true ≡ true
    by_test true e = absurd (let past : n < base + k = grind (arith, nat_tests) in omega arith)
    by_test false e = refl

store-below : (n a v : ℕ) → a < n → (s : CellState) → is_below n (store_change a v s) ≡ true
store-below n a v h (Empty readers) = below n a h
store-below n a v h (Full w) = gone-below n a 1 (omega arith)
store-below n a v h (Clashed w) = refl

emptied-below : (cells : List (Option Held)) → HasBlocks cells → (a : ℕ)
    → is_below (length cells) (emptying_change cells a (block_with_base a (held_at cells a))) ≡ true
emptied-below cells blocks a = by_held (held_at cells a) refl
  where
    by_waiters : (block : Block) → a + block.length ≤ length cells → (t : Bool)
        → is_below (length cells) (cond t Same (Gone a block.length)) ≡ true
    by_waiters block h true = refl
    by_waiters block h false = gone-below (length cells) a block.length h

    by_base : (held : Held) → held_at cells a ≡ Some held → (t : Bool) → (held.block.base == a) ≡ t
        → is_below (length cells) (emptying_change cells a (cond t (Some held.block) None)) ≡ true
    by_base held e false is = refl
    by_base held e true is =
        let bounds = blocks.within a held.block (ap (λ (o : Option Held). option_map (λ (h : Held). h.block) o) e) in
        let last = bounds.2 in
        let same : held.block.base ≡ a = grind (arith, nat_tests) in
        by_waiters held.block (omega (arith, last, same))
        (list_any is_waiting_cell (take held.block.length (drop a cells)))

    by_held : (o : Option Held) → held_at cells a ≡ o
        → is_below (length cells) (emptying_change cells a (block_with_base a o)) ≡ true
    by_held None e = refl
    by_held (Some held) e = by_base held e (held.block.base == a) refl

op-below : (cells : List (Option Held)) → HasBlocks cells → (op : Op) → is_below (length cells) (change_of cells op)
    ≡ true
op-below cells blocks (Alloc kind n) = refl
op-below cells blocks (Fetch a) = refl
op-below cells blocks (Take a) = refl
op-below cells blocks (Put a v) = refl
op-below cells blocks (Store a v) = by_held (held_at cells a) refl
  where
    by_kind : (held : Held) → held_at cells a ≡ Some held → (t : Bool)
        → is_below (length cells) (cond t (store_change a v held.state) Same) ≡ true
    by_kind held e true = store-below (length cells) a v (held_at-within cells a held e) held.state
    by_kind held e false = refl

    by_held : (o : Option Held) → held_at cells a ≡ o → is_below (length cells) (store_change_in a v o) ≡ true
    by_held None e = refl
    by_held (Some held) e = by_kind held e (same_kind I held.block.kind)
op-below cells blocks (Release a) = emptied-below cells blocks a
op-below cells blocks (Reset a) = emptied-below cells blocks a

pub command-below : (m : Contents) (command : Command) → HasBlocks m.cells
    → is_below (length m.cells) (change_by m command) ≡ true
command-below m (Asks r) blocks = op-below m.cells blocks r.op
command-below m (Confirm element upto) blocks = refl

-- what an opening shows
fills-below : (base n : ℕ) (cells : List (Option Held)) → base + length cells ≤ n
    → AllByRecursion (λ change. is_below n change ≡ true) (fills_from base cells)
fills-below base n [] h = tt
fills-below base n (cell ∷ cells) h = by_value (full_in cell) (fills-below (suc base) n cells (omega arith))
  where
    by_value : (o : Option ℕ) → AllByRecursion (λ change. is_below n change ≡ true) (fills_from (suc base) cells)
        → AllByRecursion (λ change. is_below n change ≡ true) (fill_at base o ++ fills_from (suc base) cells)
    by_value None rest = rest
    by_value (Some v) rest = (below n base (omega arith), rest)

pub opening-below : (m : Contents) → AllByRecursion (λ change. is_below (length m.cells) change ≡ true) (opening m)
opening-below m = fills-below 0 (length m.cells) m.cells (omega arith)
