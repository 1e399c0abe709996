-- Agreement by marks: the entry of each waiter is marked, if it waits for that cell and isn't marked before. (Own.)
use Rattle.std.specs.Prelude.{◌≡◌, ℕ, ◌+◌, ◌-◌, ◌*◌, ◌<◌, ◌≤◌, Bool, true, false, not, ◌&&◌, List, [], ◌∷◌, length}
use Rattle.std.specs.Prelude.{replicate, if◌then◌else◌, slice_get, slice_index_or, slice_set, Some, None, Option}
use Rattle.std.specs.Prelude.{option_and_then}
use Rattle.im_types.specs.Types.{Kind, Waiter, Kept, WINDOW, Held, Window, new_window, waiters_of, awaiting, waits_for}
use Rattle.im_types.specs.Types.{is_waiting}
use Rattle.im_contents.specs.Counting.{waiting}

-- no window keeps more entries than the maximum
abbrev pub AreFew : List Window → Type 0
AreFew windows = (element : ℕ) (w : Window) → slice_get windows element ≡ Some w → length w.kept ≤ WINDOW

-- the place of a request's mark: there is one for each entry that its window may keep
abbrev pub place_of_mark : List Window → Waiter → ℕ
place_of_mark windows who = WINDOW * who.element + (who.number - (slice_index_or windows who.element new_window).base)

module _ (kept : Waiter → Option Kept) (place : Waiter → ℕ) where
  -- whether an entry waits for a cell of this kind and isn't marked
  abbrev pub may_mark : Kind → ℕ → List Bool → Waiter → Bool
  may_mark kind a marks who = waits_for (awaiting kind a) (kept who) && not (slice_index_or marks (place who) true)

  -- the marks with this entry marked too, if it may be
  abbrev pub mark_one : Kind → ℕ → List Bool → Waiter → Option (List Bool)
  mark_one kind a marks who = if may_mark kind a marks who then Some (slice_set marks (place who) true) else None

  -- the marks with these entries marked too, if each may be
  abbrev pub mark_list : Kind → ℕ → List Bool → List Waiter → Option (List Bool)
  mark_list kind a marks [] = Some marks
  mark_list kind a marks (who ∷ waiters) = option_and_then (λ m. mark_list kind a m waiters) (mark_one kind a marks who)

  -- the same for the waiters of a cell
  abbrev pub mark_held : ℕ → List Bool → Option Held → Option (List Bool)
  mark_held a marks None = Some marks
  mark_held a marks (Some held) = mark_list held.block.kind a marks (waiters_of held.state)

  -- the same for the waiters of the cells from an address on
  abbrev pub mark_all : ℕ → List Bool → List (Option Held) → Option (List Bool)
  mark_all a marks [] = Some marks
  mark_all a marks (held ∷ cells) = option_and_then (λ m. mark_all (a + 1) m cells) (mark_held a marks held)

  -- different requests that wait have different places, all of them below `size`
  pub record HavePlaces (size : ℕ) : Type 0 where
    pub apart : (v w : Waiter) → waiting (kept v) ≡ 1 → waiting (kept w) ≡ 1 → place v ≡ place w → v ≡ w
    pub within : (w : Waiter) → waiting (kept w) ≡ 1 → place w < size

  -- each waiter can be marked, and in the end each entry that waits is marked
  pub record AgreesByMarks (size : ℕ) (cells : List (Option Held)) : Type 0 where
    pub after : List Bool
    pub is : mark_all 0 (replicate size false) cells ≡ Some after
    pub all : (who : Waiter) → waiting (kept who) ≡ 1 → slice_index_or after (place who) false ≡ true

-- each waiting entry of a window is marked; the first entry's mark is at this place
abbrev pub ListMarked : List Kept → ℕ → List Bool → Type 0
ListMarked entries first marks = (i : ℕ) (k : Kept) → slice_get entries i ≡ Some k → is_waiting k ≡ true
    → slice_index_or marks (first + i) false ≡ true

-- each waiting entry is marked
abbrev pub AreMarked : List Window → List Bool → Type 0
AreMarked windows marks = (element : ℕ) (w : Window) → slice_get windows element ≡ Some w
    → ListMarked w.kept (WINDOW * element) marks
