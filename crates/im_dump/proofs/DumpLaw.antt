-- A text is the dump of at most one memory. (Own.)
use Rattle.std.proofs.Common.{◌≡◌, ℕ, zero, suc, ◌+◌, ◌^◌, ◌<◌, ◌≤◌, List, ◌∷◌, ◌++◌, length, slice_get, Some, None}
use Rattle.std.proofs.Common.{codes, decimal, Option, sym, refl, ap, ◌∙◌, subst, ap₂, inl, inr, append_assoc, arith}
use Rattle.std.proofs.Common.{ext_get_or}
use Rattle.std.proofs.lemmas.{Bool.cases_lt, Bool.eqb-false, List.append_cancel_left}
use Rattle.std.proofs.lemmas.Option.{slice_get_cases, slice_get_past}
use Rattle.im_types.specs.Types.{MAX_CELLS, MAX_ELEMENTS, MAX_SLOTS, AreLimits, Held, Window, Contents, held_at}
use Rattle.im_types.specs.Types.{HasBlocks, IsWindow, Sizes}
use Rattle.im_text.specs.Texts.{texts_below}
use Rattle.im_dump.proofs.CellCuts.{at_cell, block_in, FitsLength, from_before, held_cut, later_held, NoCell}
use Rattle.im_dump.proofs.Cuts.{field_cut, second, third}
use Rattle.im_dump.proofs.Steps.{below_is, in_step, lists_by_get, texts_from, three_same}
use Rattle.im_dump.proofs.WindowCuts.{at_window, begins_window, BeginsE, later_window, NoWindow, window_cut}
use Rattle.im_dump.specs.{Dump.all_cells, Dump.all_windows, Dump.cell_lines, Dump.dump_text, Dump.first_line}
use Rattle.im_dump.specs.{Dump.head_lines, Dump.last_line, Dump.window_lines, Fitting.FitsContents, Fitting.FitsDump}

-- ---- the head

head_is : (s : Sizes) (c : ℕ) (t : List ℕ) → head_lines s c ++ t
    ≡ codes "cells " ++ (decimal s.cells ++ (10 ∷ (codes "elements " ++ (decimal s.elements ++ (10 ∷ (codes "slots " ++
    (decimal s.slots ++ (10 ∷ (codes "count " ++ (decimal c ++ (10 ∷ t)))))))))))
head_is s c t = simp append_assoc

head_cut : (s t : Sizes) (c d : ℕ) (x y : List ℕ) → AreLimits s.cells s.elements s.slots
    → AreLimits t.cells t.elements t.slots → c < 2 ^ 64 → d < 2 ^ 64
    → head_lines s c ++ x ≡ head_lines t d ++ y → (s ≡ t) × ((c ≡ d) × (x ≡ y))
head_cut s t c d x y p q i j e =
    let a : s.cells ≤ MAX_CELLS = p.few_cells in
    let b : t.cells ≤ MAX_CELLS = q.few_cells in
    let a2 : s.elements ≤ MAX_ELEMENTS = p.few_elements in
    let b2 : t.elements ≤ MAX_ELEMENTS = q.few_elements in
    let a3 : s.slots ≤ MAX_SLOTS = p.few_slots in
    let b3 : t.slots ≤ MAX_SLOTS = q.few_slots in
    let cells = field_cut (codes "cells ") 10 s.cells t.cells _ _ (omega arith) (omega arith) (omega arith) (sym
    (head_is s c x) ∙ e ∙ head_is t d y) in
    let elements = field_cut (codes "elements ") 10 s.elements t.elements _ _ (omega arith) (omega arith) (omega arith)
    cells.1 in
    let slots = field_cut (codes "slots ") 10 s.slots t.slots _ _ (omega arith) (omega arith) (omega arith) elements.1
    in
    let count = field_cut (codes "count ") 10 c d x y (omega arith) i j slots.1 in (
      three_same (λ (a : ℕ) (b : ℕ) (k : ℕ). record { cells = a; elements = b; slots = k }) cells.0 elements.0 slots.0,
      (count.0, count.1),
    )

-- ---- cells

first_of_cell : (x y : List ℕ) (a : ℕ) → at_cell a x ≡ 101 ∷ y → ⊥
first_of_cell x y a e = eqb-false 99 101 refl (first 99 101 _ _ e)
  where
    first : (a b : ℕ) (x y : List ℕ) → a ∷ x ≡ b ∷ y → a ≡ b
    first a b x y e = cc

length_fits : (cells : List (Option Held)) (j : ℕ) → HasBlocks cells → length cells < 2 ^ 64
    → FitsLength (held_at cells j)
length_fits cells j blocks few = λ held is.
    let within : (held.block.base ≤ j) × (j < held.block.base + held.block.length) × (held.block.base +
    held.block.length ≤ length cells) =
    blocks.within j held.block (ap block_in is) in
    let end : held.block.base + held.block.length ≤ length cells = within.2 in
    (omega arith)

-- the cells of two memories
cells_cut : (m n : Contents) (size : ℕ) (r u : List ℕ) → size ≤ MAX_CELLS → length m.cells ≡ size → length n.cells
    ≡ size
    → HasBlocks m.cells → HasBlocks n.cells → FitsContents m → FitsContents n
    → ((a : ℕ) → NoCell a r) → ((a : ℕ) → NoCell a u)
    → all_cells m ++ r ≡ all_cells n ++ u → (m.cells ≡ n.cells) × (r ≡ u)
cells_cut m n size r u few i j p q fit fits clear none e =
    let steps : ((a : ℕ) → a < size → held_at m.cells a ≡ held_at n.cells a) × (r ≡ u) =
    in_step (cell_lines m) (cell_lines n) NoCell (λ a. held_at m.cells a ≡ held_at n.cells a) size
    (λ a k t lt end h. later_held a k (held_at m.cells a) t (omega arith) lt h)
    (λ a k t lt end h. later_held a k (held_at n.cells a) t (omega arith) lt h)
    (λ a t v lt below h g is. held_cut a (held_at m.cells a) (held_at n.cells a) t v (omega arith) (fit.cells a)
    (fits.cells a)
    (length_fits m.cells a p (omega arith)) (length_fits n.cells a q (omega arith)) (from_before a m.cells n.cells p q
    below) h g is)
    size 0 r u (omega arith) clear none (λ a lt. absurd (omega arith))
    (ap (λ x. x ++ r) (sym (below_is (cell_lines m) size) ∙ ap (texts_below (cell_lines m)) (sym i)) ∙ e
    ∙ ap (λ x. x ++ u) (ap (texts_below (cell_lines n)) j ∙ below_is (cell_lines n) size)) in
    (ext_get_or None m.cells n.cells (i ∙ sym j) (λ a lt. steps.0 a (omega arith)), steps.1)

-- ---- windows

-- the lines of an element's window
abbrev window_text : Contents → ℕ → List ℕ
window_text m e = window_lines e (slice_get m.windows e)

windows_cut : (m n : Contents) (size : ℕ) (r u : List ℕ) → size ≤ MAX_ELEMENTS → length m.windows ≡ size
    → length n.windows ≡ size
    → ((e : ℕ) (w : Window) → slice_get m.windows e ≡ Some w → IsWindow w) → ((e : ℕ) (w : Window)
    → slice_get n.windows e ≡ Some w → IsWindow w)
    → FitsContents m → FitsContents n → ((e : ℕ) → NoWindow e r) → ((e : ℕ) → NoWindow e u)
    → all_windows m ++ r ≡ all_windows n ++ u → (m.windows ≡ n.windows) × (r ≡ u)
windows_cut m n size r u few i j p q fit fits clear none e =
    let steps : ((k : ℕ) → k < size → slice_get m.windows k ≡ slice_get n.windows k) × (r ≡ u) =
    in_step (window_text m) (window_text n) NoWindow (λ k. slice_get m.windows k ≡ slice_get n.windows k) size
    (λ a k t lt end h. later_window a k (slice_get m.windows a) t (omega arith) lt h)
    (λ a k t lt end h. later_window a k (slice_get n.windows a) t (omega arith) lt h)
    (λ k t v lt below h g is. one k t v lt h g is)
    size 0 r u (omega arith) clear none (λ k lt. absurd (omega arith))
    (ap (λ x. x ++ r) (sym (below_is (window_text m) size) ∙ ap (texts_below (window_text m)) (sym i)) ∙ e
    ∙ ap (λ x. x ++ u) (ap (texts_below (window_text n)) j ∙ below_is (window_text n) size)) in (
      lists_by_get m.windows n.windows (λ k. elim (cases_lt k size) [
        | inl lt ↦ steps.0 k lt
        | inr past ↦ slice_get_past m.windows k (omega arith) ∙ sym (slice_get_past n.windows k (omega arith))
      ]),
      steps.1,
    )
  where
    one : (k : ℕ) (t v : List ℕ) → k < size → NoWindow k t → NoWindow k v → window_text m k ++ t
        ≡ window_text n k ++ v → (slice_get m.windows k ≡ slice_get n.windows k) × (t ≡ v)
    one k t v lt h g is = elim ((slice_get_cases m.windows k).1) [
      | inl (w, inside, at, read) ↦ elim ((slice_get_cases n.windows k).1) [
        | inl (x, within, there, found) ↦
            (let cut : (w ≡ x) × (t ≡ v) = window_cut k w x t v (omega arith) (p k w at) (q k x there) (fit.entries k w
            at) (fits.entries k x there) h g
            (ap (λ o. window_lines k o ++ t) (sym at) ∙ is ∙ ap (λ o. window_lines k o ++ v) there) in
            (at ∙ ap Some cut.0 ∙ sym there, cut.1))
        | inr (past, none) ↦ absurd (omega arith)
      ]
      | inr (past, none) ↦ absurd (omega arith)
    ]

-- ---- the whole

begins_rows : (n a : ℕ) (f : ℕ → List ℕ) (r : List ℕ) → ((a : ℕ) (t : List ℕ) → BeginsE t → BeginsE (f a ++ t))
    → BeginsE r → BeginsE (texts_from f a n ++ r)
begins_rows zero a f r later h = h
begins_rows (suc n) a f r later h =
    subst BeginsE (sym (append_assoc (f a) (texts_from f (suc a) n) r)) (later a (texts_from f (suc a) n ++ r)
    (begins_rows n (suc a) f r later h))

no_cell : (a : ℕ) (t : List ℕ) → BeginsE t → NoCell a t
no_cell a t h = λ x e. first_of_cell x h.0 a (sym e ∙ h.1)

windows_behind : (m : Contents) (a : ℕ) → NoCell a (all_windows m ++ last_line)
windows_behind m a =
    subst (λ t. NoCell a (t ++ last_line)) (sym (below_is (window_text m) (length m.windows)))
    (no_cell a (texts_from (window_text m) 0 (length m.windows) ++ last_line)
    (begins_rows (length m.windows) 0 (window_text m) last_line (λ e t h. begins_window e (slice_get m.windows e) t h)
    (_, refl)))

no_window : (e : ℕ) (x : List ℕ) → last_line ≡ at_window e x → ⊥
unfolding second
no_window e x is = eqb-false 110 108 refl (ap second is)

no_entry : (x : List ℕ) → last_line ≡ codes "entry " ++ x → ⊥
unfolding third second
no_entry x is = eqb-false 100 116 refl (ap third is)

last_behind : (e : ℕ) → NoWindow e last_line
last_behind e = record { window = λ x is. no_window e x is; entries = λ x is. no_entry x is }

same_contents : (m n : Contents) → m.cells ≡ n.cells → m.windows ≡ n.windows → m ≡ n
same_contents m n p q = ap₂ (λ (c : List (Option Held)) (w : List Window). record { cells = c; windows = w }) p q

five : (f h c w l : List ℕ) → f ++ h ++ c ++ w ++ l ≡ f ++ (h ++ (c ++ (w ++ l)))
five f h c w l = simp append_assoc

dump_is : (s : Sizes) (c : ℕ) (m : Contents) → dump_text s c m
    ≡ first_line ++ (head_lines s c ++ (all_cells m ++ (all_windows m ++ last_line)))
unfolding dump_text
dump_is s c m = five first_line (head_lines s c) (all_cells m) (all_windows m) last_line

-- the law
pub one_dump : (s t : Sizes) (c d : ℕ) (m n : Contents) → FitsDump s c m → FitsDump t d n → dump_text s c m
    ≡ dump_text t d n → (s ≡ t) × (c ≡ d) × (m ≡ n)
one_dump s t c d m n p q e =
    let head : (s ≡ t) × ((c ≡ d) × (all_cells m ++ (all_windows m ++ last_line)
    ≡ all_cells n ++ (all_windows n ++ last_line))) =
    head_cut s t c d _ _ p.limits q.limits p.counted q.counted (append_cancel_left first_line _ _ (sym (dump_is s c m)
    ∙ e ∙ dump_is t d n)) in
    let cells : t.cells ≡ s.cells = ap (λ (z : Sizes). z.cells) (sym head.0) in
    let elements : t.elements ≡ s.elements = ap (λ (z : Sizes). z.elements) (sym head.0) in
    let first : (m.cells ≡ n.cells) × (all_windows m ++ last_line ≡ all_windows n ++ last_line) =
    cells_cut m n s.cells _ _ p.limits.few_cells p.memory.cell_count (q.memory.cell_count
    ∙ cells) p.memory.blocks q.memory.blocks p.fits q.fits
    (windows_behind m) (windows_behind n) head.1.1 in
    let second : (m.windows ≡ n.windows) × (last_line ≡ last_line) =
    windows_cut m n s.elements last_line last_line p.limits.few_elements p.memory.window_count (q.memory.window_count ∙
    elements) p.memory.windows q.memory.windows p.fits q.fits
    last_behind last_behind first.1 in
    (head.0, head.1.0, same_contents m n first.0 second.0)
