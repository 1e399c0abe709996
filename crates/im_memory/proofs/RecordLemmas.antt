-- One record of a memory, and its bounds.
use Rattle.std.proofs.Common.{◌≡◌, ℕ, zero, suc, ◌*◌, ◌<◌, ◌≤◌, List, [], ◌∷◌, length, replicate, slice_get}
use Rattle.std.proofs.Common.{slice_index_or, Some, None, Option, sym, refl, ap, ◌∙◌, subst, inl, ⊎_elim, arith}
use Rattle.im_types.specs.Types.{Waiter, WINDOW, NONE, new_window, CellRecord, NodeRecord, FreeCell, BlockCell, IsLink}
use Rattle.im_types.specs.Types.{Records}
use Rattle.{im_laws.proofs.Tests.below_or_from, im_laws.proofs.Tests.some_same, im_arena.specs.declared.Ends.Ends}
use Rattle.im_arena.specs.Lists.{ends_at, first_in, free_record, IsThreaded, last_in, link_of, list_at, Shown, Threads}
use Rattle.im_cell.specs.{declared.Slot.Slot, Slots.slot_at}
use Rattle.im_memory.proofs.ShownLemmas.{each-node, IsNode, Off, On, Past}
use Rattle.im_memory.proofs.ThreadLemmas.{first-within, last-within, read-within}
use Rattle.im_memory.specs.Shown.{AreWithin, cell_record, cell_records, records_of, tag_shown}
use Rattle.im_memory.specs.State.{empty_records}

pub length-cells : (slots : List (Option Slot)) (ends : List (Option Ends)) → length (cell_records slots ends)
    ≡ length slots
length-cells [] ends = refl
length-cells (slot ∷ slots) [] = ap suc (length-cells slots [])
length-cells (slot ∷ slots) (e ∷ ends) = ap suc (length-cells slots ends)

pub cell-at : (slots : List (Option Slot)) (ends : List (Option Ends)) (a : ℕ)
    → slice_index_or (cell_records slots ends) a (FreeCell 0 NONE)
    ≡ cell_record (slot_at slots a) (slice_index_or ends a None)
cell-at [] ends a = refl
cell-at (slot ∷ slots) [] zero = refl
cell-at (slot ∷ slots) [] (suc a) = cell-at slots [] a
cell-at (slot ∷ slots) (e ∷ ends) zero = refl
cell-at (slot ∷ slots) (e ∷ ends) (suc a) = cell-at slots ends a

module _ (slots : List (Option Slot)) (arena : Shown) (a : ℕ) where
  pub slot-none : None ≡ slot_at slots a → FreeCell 0 NONE
      ≡ slice_index_or (cell_records slots arena.links.ends) a (FreeCell 0 NONE)
  slot-none e = ap (λ (slot : Option Slot). cell_record slot (ends_at arena.links a)) e
      ∙ sym (cell-at slots arena.links.ends a)

  pub slot-some : (slot : Slot) → Some slot ≡ slot_at slots a
      → BlockCell slot.block (tag_shown slot.cell (ends_at arena.links a))
      ≡ slice_index_or (cell_records slots arena.links.ends) a (FreeCell 0 NONE)
  slot-some slot e = ap (λ (slot : Option Slot). cell_record slot (ends_at arena.links a)) e
      ∙ sym (cell-at slots arena.links.ends a)

-- the ends of a list are nodes
ends-list : (records : List NodeRecord) (ends : Option Ends) (waiters : List Waiter) → (waiters ≡ [] → ends ≡ None)
    → Threads records NONE (first_in ends) (last_in ends) waiters → AreWithin (length records) ends
ends-list records None waiters has t = tt
ends-list records (Some ends) [] has t = let none = has refl in absurd (cc)
ends-list records (Some ends) (w ∷ ws) has t =
    (first-within records w ws NONE ends.first ends.last t, last-within records w ws NONE ends.first ends.last t)

none_past : (ends : List (Option Ends)) (a : ℕ) → length ends ≤ a → slice_index_or ends a None ≡ None
none_past [] a past = refl
none_past (e ∷ ends) zero past = absurd (omega arith)
none_past (e ∷ ends) (suc a) past = none_past ends a (omega arith)

pub ends-within : (arena : Shown) → IsThreaded arena → (a : ℕ)
    → AreWithin (length arena.links.records) (ends_at arena.links a)
ends-within arena threaded a = ⊎_elim
    (λ lt. ends-list arena.links.records (ends_at arena.links a) (list_at arena.held a) (threaded.empty a lt).1
    (threaded.threads a lt))
    (λ past. subst (AreWithin (length arena.links.records))
    (sym (none_past arena.links.ends a (omega (arith, past, threaded.list_count)))) tt)
    (below_or_from a (length arena.held.lists))

pub ends-past : (arena : Shown) → IsThreaded arena → (a : ℕ) → length arena.held.lists ≤ a → None
    ≡ ends_at arena.links a
ends-past arena threaded a past = sym (none_past arena.links.ends a (omega (arith, past, threaded.list_count)))

-- the link of a node
link-read : (arena : Shown) (threaded : IsThreaded arena) (n : ℕ) (node : NodeRecord)
    → slice_get arena.links.records n ≡ Some node → IsNode arena threaded n
    → IsLink (length arena.links.records) (link_of node)
link-read arena threaded n node e (On listed one) = subst
    (λ (node : NodeRecord). IsLink (length arena.links.records) (link_of node))
    (some_same _ node (sym listed.there ∙ e)) listed.link
link-read arena threaded n node e (Off free none) = inl (ap link_of (some_same node free_record (sym e ∙ free)))
link-read arena threaded n node e (Past past none) = absurd
    (omega (arith, past, read-within arena.links.records n node e))

pub link-within : (arena : Shown) → IsThreaded arena → (n : ℕ) (node : NodeRecord) → Some node
    ≡ slice_get arena.links.records n → IsLink (length arena.links.records) (link_of node)
link-within arena threaded n node e = link-read arena threaded n node (sym e) (each-node arena threaded n)

pub ends-read : (arena : Shown) (a : ℕ) (ends : Option Ends) → Some ends ≡ slice_get arena.links.ends a → ends
    ≡ ends_at arena.links a
ends-read arena a ends e = by_list arena.links.ends a e
  where
    by_list : (all : List (Option Ends)) (a : ℕ) → Some ends ≡ slice_get all a → ends ≡ slice_index_or all a None
    by_list [] a e = absurd (cc)
    by_list (x ∷ all) zero e = some_same ends x e
    by_list (x ∷ all) (suc a) e = by_list all a e

-- ---- a memory with no block and no entry

free-cells : (n : ℕ) (ends : List (Option Ends)) → cell_records (replicate n None) ends ≡ replicate n (FreeCell 0 NONE)
free-cells zero ends = refl
free-cells (suc n) [] = ap (λ cells. FreeCell 0 NONE ∷ cells) (free-cells n [])
free-cells (suc n) (e ∷ ends) = ap (λ cells. FreeCell 0 NONE ∷ cells) (free-cells n ends)

-- a list that has one thing in each place
all-free : (records : List NodeRecord) (n : ℕ) → length records ≡ n
    → ((i : ℕ) → i < n → slice_get records i ≡ Some free_record) → records ≡ replicate n free_record
all-free [] zero size each = refl
all-free [] (suc n) size each = absurd (omega arith)
all-free (x ∷ records) zero size each = absurd (omega arith)
all-free (x ∷ records) (suc n) size each =
    ap (λ r. r ∷ records) (some_same x free_record (each 0 (omega arith)))
    ∙ ap (λ rs. free_record ∷ rs) (all-free records n (omega arith) (λ i lt. each (suc i) (omega arith)))

abbrev nobody_at : List Waiter
nobody_at = []

no-list : (lists a : ℕ) → slice_index_or (replicate lists (nobody_at)) a [] ≡ []
no-list zero a = refl
no-list (suc lists) zero = refl
no-list (suc lists) (suc a) = no-list lists a

pub empty-records : (cells elements : ℕ) (arena : Shown) → IsThreaded arena → arena.held.lists ≡ replicate cells []
    → arena.held.nodes ≡ WINDOW * elements
    → records_of (replicate cells None) arena (replicate elements new_window) ≡ empty_records cells elements
empty-records cells elements arena threaded lists nodes =
    let empty : (a : ℕ) → list_at arena.held a
    ≡ [] = λ a. ap (λ (all : List (List Waiter)). slice_index_or all a []) lists ∙ no-list cells a in
    let free = all-free arena.links.records (WINDOW * elements) (threaded.node_count ∙ nodes)
    (λ n lt. threaded.unreached n (omega arith)
    (λ a i listed below at. let none = ap length (empty a) in omega arith)) in
    ap (λ (shown : List CellRecord). let r : Records = record { cells = shown; nodes = arena.links.records; windows = replicate elements new_window } in r) (free-cells cells arena.links.ends)
    ∙ ap (λ (shown : List NodeRecord). let r : Records = record {
      cells = replicate cells
          (FreeCell 0 NONE);
      nodes = shown;
      windows = replicate elements new_window;
    } in r) free
