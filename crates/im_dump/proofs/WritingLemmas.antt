-- Texts of a dump, one after another, and the lines of a window. (Own.)
use Rattle.std.proofs.Common.{◌≡◌, ℕ, ◌+◌, ◌-◌, ◌<◌, ◌≤◌, Bool, false, ◌&&◌, List, [], ◌∷◌, ◌++◌, length, if◌then◌else◌}
use Rattle.std.proofs.Common.{◌==◌, slice_get, Some, Option, sym, ap, ◌∙◌, subst, ap₂, inl, inr, append_assoc}
use Rattle.std.proofs.Common.{append-nil, arith}
use Rattle.std.{proofs.lemmas.Bool.cases_lt, proofs.lemmas.Option.slice_get_within, specs.List.AllByRecursion}
use Rattle.im_types.specs.Types.{Waiter, Kept, Held, Window, Contents, held_at, kept_for, Sizes, FitsPlace}
use Rattle.{im_records.specs.Entries.FitEntries, im_text.proofs.WindowLemmas.kept_at}
use Rattle.im_dump.specs.Dump.{all_cells, all_windows, base_line, dump_text, first_line, head_lines, kept_entry}
use Rattle.im_dump.specs.Dump.{kept_lines, last_line, waits_line, waits_lines, window_lines}
use Rattle.im_dump.specs.Fitting.{FitsHeld, FitsWaiter, FitsWindowOf, FitWindows}

-- ---- texts one after another

-- what follows a text is written after it
pub joined : (start a rest : List ℕ) {was now : List ℕ} → was ≡ start ++ a → now ≡ was ++ rest → now
    ≡ start ++ (a ++ rest)
joined start a rest first later = later ∙ ap (λ xs. xs ++ rest) first ∙ append_assoc start a rest

-- the five parts of a dump, written one after another
pub dump_written : (start one two three four five : List ℕ) (s : Sizes) (count : ℕ) (m : Contents)
    → one ≡ start ++ first_line → two ≡ one ++ head_lines s count → three ≡ two ++ all_cells m → four
    ≡ three ++ all_windows m → five ≡ four ++ last_line
    → five ≡ start ++ dump_text s count m
unfolding dump_text
dump_written start one two three four five s count m i ii iii iv v =
    joined start (first_line ++ head_lines s count ++ all_cells m ++ all_windows m) last_line
    (joined start (first_line ++ head_lines s count ++ all_cells m) (all_windows m)
    (joined start (first_line ++ head_lines s count) (all_cells m) (joined start first_line (head_lines s count) i ii)
    iii) iv) v

-- ---- those that wait

-- nobody is left
pub waits_none : (a : ℕ) (left : List Waiter) (was all : List ℕ) → left ≡ [] → was ++ waits_lines a left ≡ all → was
    ≡ all
unfolding waits_lines
waits_none a left was all none rest = sym (append-nil was) ∙ ap (λ ws. was ++ waits_lines a ws) (sym none) ∙ rest

-- one more is written
pub waits_more : (a : ℕ) (left after : List Waiter) (who : Waiter) (was now all : List ℕ) → left ≡ who ∷ after → now
    ≡ was ++ waits_line a who
    → was ++ waits_lines a left ≡ all → now ++ waits_lines a after ≡ all
unfolding waits_lines
waits_more a left after who was now all is added rest =
    ap (λ xs. xs ++ waits_lines a after) added ∙ append_assoc was (waits_line a who) (waits_lines a after)
    ∙ ap (λ ws. was ++ waits_lines a ws) (sym is) ∙ rest

-- the numbers of nobody
pub fit_none : (left : List Waiter) → left ≡ [] → AllByRecursion FitsWaiter left
fit_none left none = subst (λ (ws : List Waiter). AllByRecursion FitsWaiter ws) (sym none) tt

-- the numbers of one more
pub fit_more : (left after : List Waiter) (who : Waiter) → left ≡ who ∷ after → FitsWaiter who
    → AllByRecursion FitsWaiter after → AllByRecursion FitsWaiter left
fit_more left after who is fits rest = subst (λ (ws : List Waiter). AllByRecursion FitsWaiter ws) (sym is) (fits, rest)

-- ---- cells

-- one cell more
pub one_cell_more : (cells : List (Option Held)) (a : ℕ) → ((k : ℕ) → k < a → FitsHeld (held_at cells k))
    → FitsHeld (held_at cells a)
    → (k : ℕ) → k < a + 1 → FitsHeld (held_at cells k)
one_cell_more cells a below here k lt = elim (cases_lt k a) [
  | inl less ↦ below k less
  | inr ge ↦ (let same : a ≡ k = omega arith in subst (λ (k : ℕ). FitsHeld (held_at cells k)) same here)
]

-- ---- windows

-- one window more
pub one_window_more : (m : Contents) (e : ℕ) → ((k : ℕ) → k < e → FitsWindowOf m k) → FitsWindowOf m e → (k : ℕ)
    → k < e + 1 → FitsWindowOf m k
one_window_more m e below here k lt = elim (cases_lt k e) [
  | inl less ↦ below k less
  | inr ge ↦ (let same : e ≡ k = omega arith in subst (FitsWindowOf m) same here)
]

-- all windows
pub fit_windows : (m : Contents) (n : ℕ) → n ≡ length m.windows → ((k : ℕ) → k < n → FitsWindowOf m k) → FitWindows m
fit_windows m n all below = λ e w at. below e (let inside : e < length m.windows = slice_get_within m.windows e w at in
    omega arith) w at

-- the window that is there
pub fit_found : (m : Contents) (element : ℕ) (w : Window) → slice_get m.windows element ≡ Some w → FitEntries w.kept
    → FitsWindowOf m element
fit_found m element w at fits = λ v there.
    let some : Some w ≡ Some v = sym at ∙ there in
    let same : w ≡ v = cc in
    subst (λ (w : Window). FitEntries w.kept) same fits

-- one entry more
pub one_entry_more : (kept : List Kept) (n next : ℕ) → next ≡ n + 1 → ((i : ℕ) → i < n
    → FitsPlace (slice_get kept i)) → FitsPlace (slice_get kept n)
    → (i : ℕ) → i < next → FitsPlace (slice_get kept i)
one_entry_more kept n next is below here i lt = elim (cases_lt i n) [
  | inl less ↦ below i less
  | inr ge ↦ (let same : n ≡ i = omega arith in subst (λ (i : ℕ). FitsPlace (slice_get kept i)) same here)
]

-- what is kept, by its place in the window
pub place_at : (windows : List Window) (element : ℕ) (w : Window) (base number : ℕ) (kept : Option Kept)
    → slice_get windows element ≡ Some w → base ≡ w.base → base ≤ number
    → kept ≡ kept_for windows (record { element = element; number = number })
    → kept ≡ slice_get w.kept (number - base)
place_at windows element w base number kept at from below is =
    let i : number - w.base ≡ number - base = omega arith in
    let low : w.base ≤ number = omega arith in
    is ∙ kept_at windows element w number at low ∙ ap (slice_get w.kept) i

-- its line is that of its place in the window
pub entry_at : (windows : List Window) (element : ℕ) (w : Window) (base number : ℕ) (kept : Option Kept)
    → slice_get windows element ≡ Some w → base ≡ w.base → base ≤ number
    → kept ≡ kept_for windows (record { element = element; number = number })
    → kept_entry element number kept ≡ kept_entry element (w.base + (number - base)) (slice_get w.kept (number - base))
entry_at windows element w base number kept at from below is =
    let n : number ≡ w.base + (number - base) = omega arith in
    ap₂ (kept_entry element) n (place_at windows element w base number kept at from below is)

-- the lines of an element that has asked something
pub element_told : (element : ℕ) (found : Option Window) (w : Window) (base kept : ℕ) (start mid now : List ℕ)
    → found ≡ Some w → base ≡ w.base → kept ≡ length w.kept
    → ((base == 1) && (kept == 0)) ≡ false
    → mid ≡ start ++ base_line element base → now ≡ mid ++ kept_lines element w → now
    ≡ start ++ window_lines element found
element_told element found w base kept start mid now at from many asked line entries =
    joined start (base_line element base) (kept_lines element w) line entries
    ∙ ap (λ base. start ++ (base_line element base ++ kept_lines element w)) from
    ∙ ap (λ (test : Bool). start ++ (if test then [] else base_line element w.base ++ kept_lines element w)) (sym asked
    ∙ ap₂ (λ (base : ℕ) (kept : ℕ). (base == 1) && (kept == 0)) from many)
    ∙ ap (λ found. start ++ window_lines element found) (sym at)
