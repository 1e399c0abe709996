-- A memory with other numbers of cells and elements is a memory, and is shown by its cells and lists, cut or
-- lengthened.
use Rattle.std.proofs.Common.{◌≡◌, ℕ, zero, suc, ◌+◌, ◌-◌, ◌*◌, ◌<◌, ◌≤◌, Bool, true, false, List, [], ◌∷◌, length}
use Rattle.std.proofs.Common.{get_or, replicate, if◌then◌else◌, nat_lt, slice_get, Some, None, Ok, Err, sum_by, Option}
use Rattle.std.proofs.Common.{option_map, option_and_then, sym, refl, ap, ◌∙◌, subst, ⊎_elim, arith, ext_get_or}
use Rattle.std.proofs.lemmas.{Bool.cases_lt, List.Sums.sum_by-cons, Option.get_or_from_slice_get}
use Rattle.std.proofs.lemmas.List.{get_or-map, get_or_past, length-map, length-replicate, nil_from_length}
use Rattle.im_types.specs.Types.{Waiter, Block, Kept, Refusal, WINDOW, Held, Window, Contents, new_window, held_at}
use Rattle.im_types.specs.Types.{waiters_in, waiters_at, kept_under, kept_for, block_at, IsWindow, IsMemory, times}
use Rattle.im_types.specs.Types.{waits_in, address_of, bounds, Sizes, ShowLists, Records, cells_shown, ShowsRecords}
use Rattle.im_image.proofs.Encoding.{bounds-none, bounds-some, past-new}
use Rattle.im_image.proofs.Restored.{ListsPut, records-fit}
use Rattle.im_migration.proofs.Chained.{free_cell, list-is, lists-fitted, nobody, shown-fitted}
use Rattle.im_migration.proofs.Fitted.{fitted-at, fitted-below, length-fitted}
use Rattle.im_migration.specs.Resizing.{FitsSizes, fitted, IsResized, lists_of, window_at}

abbrev pub no_cell : Option Held
no_cell = None

pub is-window : (windows : List Window) → ((e : ℕ) (w : Window) → slice_get windows e ≡ Some w → IsWindow w) → (e : ℕ)
    → IsWindow (window_at windows e)
is-window [] each e = new
  where
    new : IsWindow new_window
    new = record { from_one = omega arith; few = omega arith; to_last = omega arith }
is-window (w ∷ windows) each zero = each 0 w refl
is-window (w ∷ windows) each (suc e) = is-window windows (λ i v there. each (suc i) v there) e

abbrev nothing-kept : Option Kept
nothing-kept = None

-- a new window keeps nothing
none-kept : (number : ℕ) → kept_under new_window number ≡ None
none-kept number = by (nat_lt number 1)
  where
    by : (b : Bool) → (if b then nothing-kept else nothing-kept) ≡ nothing-kept
    by true = refl
    by false = refl

kept-at : (windows : List Window) (e n : ℕ)
    → option_and_then (λ (w : Window). kept_under w n) (slice_get windows e) ≡ kept_under (window_at windows e) n
kept-at [] e n = sym (none-kept n)
kept-at (w ∷ windows) zero n = refl
kept-at (w ∷ windows) (suc e) n = kept-at windows e n

-- a window is new by its bounds
new-is : (w : Window) → w.base ≡ 1 → length w.kept ≡ 0 → w ≡ new_window
new-is w base none = let empty : w.kept ≡ [] = nil_from_length w.kept none in
    λ i. record { base = base i; kept = empty i }

pub new-by-bounds : (windows : List Window) (e base next : ℕ) → Ok (base, next) ≡ bounds windows e → base ≡ 1 → next ≡ 1
    → window_at windows e ≡ new_window
new-by-bounds windows e base next is first none = let has = bounds-some windows e base next is in
    new-is (window_at windows e) (sym has.base_is ∙ first) (omega (arith, has.next_is, first, none))

pub bounds-of-new : (windows : List Window) (e base next : ℕ) → Ok (base, next) ≡ bounds windows e
    → window_at windows e ≡ new_window → (base ≡ 1) × (next ≡ 1)
bounds-of-new windows e base next is new = let has = bounds-some windows e base next is in
    let first : base ≡ 1 = has.base_is ∙ ap (λ (w : Window). w.base) new in
    let none : length (window_at windows e).kept ≡ 0 = ap (λ (w : Window). length w.kept) new in
    (first, omega (arith, has.next_is, first, none))

pub new-by-none : (windows : List Window) (e : ℕ) (refusal : Refusal) → Err refusal ≡ bounds windows e
    → window_at windows e ≡ new_window
new-by-none windows e refusal is = sym (past-new windows e (bounds-none windows e refusal is))

-- a cell of a block is below the cell count
held-inside : (cells : List (Option Held)) (a : ℕ) (block : Block) → block_at cells a ≡ Some block → a < length cells
held-inside cells a block is = ⊎_elim
    (λ (lt : a < length cells). lt)
    (λ (past : length cells ≤ a). absurd
    (none-block (sym (ap (option_map (λ (h : Held). h.block)) (get_or_past cells a no_cell past)) ∙ is)))
    (cases_lt a (length cells))
  where
    none-block : None ≡ Some block → ⊥
    none-block e = cc

-- the lists of as many cells as there are now
pub length-lists-of : (n : ℕ) (cells : List (Option Held)) → length (lists_of (fitted no_cell n cells)) ≡ n
length-lists-of n cells = length-map (fitted no_cell n cells) waiters_in ∙ length-fitted no_cell n cells

pub list-at : (n : ℕ) (cells : List (Option Held)) (a : ℕ) → a < n
    → get_or (lists_of (fitted no_cell n cells)) a nobody ≡ waiters_at cells a
list-at n cells a lt = get_or-map waiters_in (fitted no_cell n cells) a no_cell nobody
    (omega (arith, lt, length-fitted no_cell n cells)) ∙ ap waiters_in (fitted-below no_cell n cells a lt)

empty-at : (n a : ℕ) → get_or (replicate n nobody) a nobody ≡ nobody
empty-at zero a = refl
empty-at (suc n) zero = refl
empty-at (suc n) (suc a) = empty-at n a

sum-empty : (n : ℕ) → sum_by length (replicate n nobody) ≡ 0
sum-empty zero = refl
sum-empty (suc n) = omega (arith, sum_by-cons length nobody (replicate n nobody), sum-empty n)

-- before the first list is put
pub none-put : (lists now : List (List Waiter)) (n : ℕ) → length lists ≡ n → now ≡ replicate n nobody
    → ListsPut lists now 0
none-put lists now n many is = record {
  begun = record {
    many = ap length is ∙ length-replicate n nobody ∙ sym many;
    first = λ a lt. absurd (omega (arith, lt));
  };
  rest = λ a from. ap (λ (l : List (List Waiter)). get_or l a nobody) is ∙ empty-at n a;
  sum = ap (sum_by length) is ∙ sum-empty n;
}

-- the same cells and windows, in other numbers, are a memory
module _ (s : Sizes) (cells elements : ℕ) (m new : Contents) (memory : IsMemory cells elements m)
    (is : IsResized s m new) where
  block-same : (a : ℕ) → block_at new.cells a ≡ block_at m.cells a
  block-same a = ap (option_map (λ (h : Held). h.block)) (is.cells a)

  kept-same : (who : Waiter) → kept_for new.windows who ≡ kept_for m.windows who
  kept-same who = kept-at new.windows who.element who.number
      ∙ ap (λ (w : Window). kept_under w who.number) (is.windows who.element)
      ∙ sym (kept-at m.windows who.element who.number)

  pub resized-memory : IsMemory s.cells s.elements new
  resized-memory = record {
    cell_count = is.sizes.cells;
    window_count = is.sizes.elements;
    blocks = record {
      within = λ a block here.
          let was : block_at m.cells a ≡ Some block = sym (block-same a) ∙ here in
          let old = memory.blocks.within a block was in
          let last : ℕ = block.base + block.length - 1 in
          let end : block_at new.cells last ≡ Some block = block-same last
          ∙ memory.blocks.whole a block was last (omega (arith, old.0, old.1)) (omega (arith, old.0, old.1)) in
          let inside = held-inside new.cells last block end in
          (old.0, old.1, omega (arith, old.0, old.1, inside));
      whole = λ a block here b from to. block-same b
          ∙ memory.blocks.whole a block (sym (block-same a) ∙ here) b from to;
    };
    windows = λ e w there.
        let same : window_at m.windows e ≡ w =
        sym (is.windows e) ∙ get_or_from_slice_get new.windows e w new_window there in
        subst IsWindow same (is-window m.windows memory.windows e);
    agrees = record {
      listed = λ who a.
          subst (λ (h : Option Held). times who (waiters_in h)
          ≡ (if waits_in a h (kept_for new.windows who) then 1 else 0)) (sym (is.cells a))
          (subst (λ (k : Option Kept). times who (waiters_at m.cells a)
          ≡ (if waits_in a (held_at m.cells a) k then 1 else 0)) (sym (kept-same who)) (memory.agrees.listed who a));
      somewhere = λ who k there waits.
          subst (λ (h : Option Held). waits_in (address_of k.op) h (Some k) ≡ true) (sym (is.cells (address_of k.op)))
          (memory.agrees.somewhere who k (sym (kept-same who) ∙ there) waits);
    };
  }

-- where the memory can have these sizes
module _ (s : Sizes) (m : Contents) (fits : FitsSizes s m) where
  -- the memory, cut or lengthened
  abbrev pub resized : Contents
  resized = record { cells = fitted no_cell s.cells m.cells; windows = fitted new_window s.elements m.windows }

  pub is-resized : IsResized s m resized
  is-resized = record {
    sizes = record {
      cells = length-fitted no_cell s.cells m.cells;
      elements = length-fitted new_window s.elements m.windows;
    };
    cells = fitted-at no_cell s.cells m.cells fits.cells;
    windows = fitted-at new_window s.elements m.windows fits.windows;
  }

  -- the records that show it
  module _ (of : Sizes) (r : Records) (shown : ShowsRecords of r m) where
    past : (a : ℕ) → s.cells ≤ a → held_at (cells_shown r.cells shown.lists) a ≡ None
    past a from = subst (λ (cells : List (Option Held)). held_at cells a ≡ None) shown.cells (fits.cells a from)

    abbrev lists : List (List Waiter)
    lists = fitted nobody s.cells shown.lists

    lists-are : lists ≡ lists_of (fitted no_cell s.cells m.cells)
    lists-are = ext_get_or nobody lists (lists_of (fitted no_cell s.cells m.cells))
        (length-fitted nobody s.cells shown.lists ∙ sym (length-lists-of s.cells m.cells))
        (λ a lt. at a (omega (arith, lt, length-fitted nobody s.cells shown.lists)))
      where
        at : (a : ℕ) → a < s.cells
            → get_or (fitted nobody s.cells shown.lists) a nobody
            ≡ get_or (lists_of (fitted no_cell s.cells m.cells)) a nobody
        at a lt = fitted-below nobody s.cells shown.lists a lt
            ∙ list-is r.nodes r.cells shown.chained.chains shown.lists shown.chained.have a
            ∙ ap (λ (cells : List (Option Held)). waiters_at cells a) (sym shown.cells)
            ∙ sym (list-at s.cells m.cells a lt)

    abbrev pub cut : Records
    cut = record {
      cells = fitted free_cell s.cells r.cells;
      nodes = r.nodes;
      windows = fitted new_window s.elements m.windows;
    }

    cells-are : cells_shown (fitted free_cell s.cells r.cells) lists ≡ fitted no_cell s.cells m.cells
    cells-are = shown-fitted r.nodes s.cells r.cells shown.chained.chains shown.lists shown.chained.have
        ∙ ap (fitted no_cell s.cells) (sym shown.cells)

    pub contents-are : cells_shown (fitted free_cell s.cells r.cells) (lists_of (fitted no_cell s.cells m.cells))
        ≡ fitted no_cell s.cells m.cells
    contents-are = ap (cells_shown (fitted free_cell s.cells r.cells)) (sym lists-are) ∙ cells-are

    pub chained : ShowLists r.nodes (fitted free_cell s.cells r.cells) (lists_of (fitted no_cell s.cells m.cells))
    chained = subst (ShowLists r.nodes (fitted free_cell s.cells r.cells)) lists-are
        (lists-fitted r.nodes s.cells r.cells shown.lists shown.chained past)

    pub memory : IsMemory s.cells s.elements (record {
      cells = cells_shown (fitted free_cell s.cells r.cells) (lists_of (fitted no_cell s.cells m.cells));
      windows = fitted new_window s.elements m.windows;
    })
    memory = subst (λ (cells : List (Option Held)). IsMemory s.cells s.elements
        (record { cells = cells; windows = fitted new_window s.elements m.windows })) (sym contents-are)
        (resized-memory s of.cells of.elements m resized shown.memory is-resized)

    pub few-wait : sum_by length (lists_of (fitted no_cell s.cells m.cells)) ≤ WINDOW * s.elements
    few-wait = records-fit s.elements s.cells cut (lists_of (fitted no_cell s.cells m.cells)) chained memory
