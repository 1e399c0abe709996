-- Texts of lines, one after another, and the lines of a window. (Own.)
use Rattle.std.proofs.Common.{◌≡◌, ℕ, ◌+◌, ◌-◌, ◌≤◌, Bool, false, ◌&&◌, List, [], ◌∷◌, ◌++◌, length, if◌then◌else◌}
use Rattle.std.proofs.Common.{◌==◌, slice_get, Some, codes, Option, sym, ap, ◌∙◌, ap₂, append_assoc, append-nil, arith}
use Rattle.im_types.specs.Types.{Waiter, Kept, Window, kept_for}
use Rattle.im_text.proofs.WindowLemmas.{kept_at}
use Rattle.im_report.specs.declared.notation.Notation.{Notation}
use Rattle.im_report.specs.Report.{element_line, entries_text, entry_line, waiter_object, waiter_objects, waiter_text}
use Rattle.im_report.specs.Report.{waiters_text, window_text}

-- ---- texts one after another

-- what follows a text is written after it
pub joined : (start a rest : List ℕ) {was now : List ℕ} → was ≡ start ++ a → now ≡ was ++ rest → now ≡ start ++ (a ++ rest)
joined start a rest first later = later ∙ ap (λ xs. xs ++ rest) first ∙ append_assoc start a rest

-- ---- those that wait

-- nobody is left
pub waiters_none : (left : List Waiter) (was all : List ℕ) → left ≡ [] → was ++ waiters_text left ≡ all → was ≡ all
unfolding waiters_text
waiters_none left was all none rest = sym (append-nil was) ∙ ap (λ ws. was ++ waiters_text ws) (sym none) ∙ rest

-- one more is written
pub waiters_more : (left after : List Waiter) (who : Waiter) (was now all : List ℕ) → left ≡ who ∷ after → now ≡ was ++ waiter_text who
    → was ++ waiters_text left ≡ all → now ++ waiters_text after ≡ all
unfolding waiters_text
waiters_more left after who was now all is added rest =
    ap (λ xs. xs ++ waiters_text after) added ∙ append_assoc was (waiter_text who) (waiters_text after)
    ∙ ap (λ ws. was ++ waiters_text ws) (sym is) ∙ rest

-- the same of objects
pub objects_none : (mark : List ℕ) (left : List Waiter) (was all : List ℕ) → left ≡ []
    → was ++ waiter_objects mark left ≡ all → was ≡ all
unfolding waiter_objects
objects_none mark left was all none rest =
    sym (append-nil was) ∙ ap (λ ws. was ++ waiter_objects mark ws) (sym none) ∙ rest

pub objects_more : (mark : List ℕ) (left after : List Waiter) (who : Waiter) (was now all : List ℕ) → left ≡ who ∷ after
    → now ≡ was ++ (mark ++ waiter_object who) → was ++ waiter_objects mark left ≡ all
    → now ++ waiter_objects (codes ",") after ≡ all
unfolding waiter_objects
objects_more mark left after who was now all is added rest =
    ap (λ xs. xs ++ waiter_objects (codes ",") after) added
    ∙ append_assoc was (mark ++ waiter_object who) (waiter_objects (codes ",") after)
    ∙ ap (λ ws. was ++ waiter_objects mark ws) (sym is) ∙ rest

-- ---- windows

-- its line is that of its place in the window
pub entry_at : (notation : Notation) (windows : List Window) (element : ℕ) (w : Window) (base number : ℕ) (kept : Option Kept) → slice_get windows element ≡ Some w → base ≡ w.base → base ≤ number
    → kept ≡ kept_for windows (record { element = element; number = number })
    → entry_line notation element number kept
    ≡ entry_line notation element (w.base + (number - base)) (slice_get w.kept (number - base))
entry_at notation windows element w base number kept at from below is =
    let n : number ≡ w.base + (number - base) = omega arith in
    let i : number - w.base ≡ number - base = omega arith in
    let low : w.base ≤ number = omega arith in
    ap₂ (entry_line notation element) n (is ∙ kept_at windows element w number at low ∙ ap (slice_get w.kept) i)

-- the lines of an element that has asked something
pub element_told : (notation : Notation) (element : ℕ) (found : Option Window) (w : Window) (base kept : ℕ) (start mid now : List ℕ) → found ≡ Some w → base ≡ w.base → kept ≡ length w.kept
    → ((base == 1) && (kept == 0)) ≡ false
    → mid ≡ start ++ element_line notation element base kept → now ≡ mid ++ entries_text notation element w
    → now ≡ start ++ window_text notation element found
element_told notation element found w base kept start mid now at from many asked line entries =
    joined start (element_line notation element base kept) (entries_text notation element w) line entries
    ∙ ap₂ (λ base kept. start ++ (element_line notation element base kept ++ entries_text notation element w)) from many
    ∙ ap (λ (test : Bool). start ++ (if test then [] else element_line notation element w.base (length w.kept) ++ entries_text notation element w)) (sym asked ∙ ap₂ (λ (base : ℕ) (kept : ℕ). (base == 1) && (kept == 0)) from many)
    ∙ ap (λ found. start ++ window_text notation element found) (sym at)
