-- The same memory with other numbers of cells and elements. (Own.)
use Rattle.std.specs.Prelude.{◌≡◌, ℕ, zero, suc, ◌≤◌, List, [], ◌∷◌, map, slice_index_or, None, Option, unwrap_or}
use Rattle.im_types.specs.Types.{Waiter, AreLimits, Held, Window, Contents, new_window, held_at, waiters_in, Sizes}
use Rattle.im_image.specs.Reading.{HasSizes}
use Rattle.im_migration.specs.declared.asked.Asked.{Asked}

-- the sizes of a copy: those that are asked for, and the old one's where none is
abbrev pub sizes_asked : Asked → Sizes → Sizes
sizes_asked asked old = record {
  cells = unwrap_or asked.cells old.cells;
  elements = unwrap_or asked.elements old.elements;
  slots = unwrap_or asked.slots old.slots;
}

-- the window of an element; past the last element it is a new one
abbrev pub window_at : List Window → ℕ → Window
window_at windows element = slice_index_or windows element new_window

-- The same memory with these numbers of cells and elements: each address has the same cell, and each element the same
-- window. An address past the last cell is free, and an element past the last one has a new window.
pub record IsResized (s : Sizes) (m new : Contents) : Type 0 where
  pub sizes : HasSizes s new
  pub cells : (a : ℕ) → held_at new.cells a ≡ held_at m.cells a
  pub windows : (element : ℕ) → window_at new.windows element ≡ window_at m.windows element

-- the sizes are out of their ranges, or the memory can't have them
abbrev pub HasNoCopy : Sizes → Contents → Type 0
HasNoCopy s m = AreLimits s.cells s.elements s.slots → (new : Contents) → IsResized s m new → ⊥

-- no block lies past the last of these cells, and no window past the last of these elements was used
pub record FitsSizes (s : Sizes) (m : Contents) : Type 0 where
  pub cells : (a : ℕ) → s.cells ≤ a → held_at m.cells a ≡ None
  pub windows : (element : ℕ) → s.elements ≤ element → window_at m.windows element ≡ new_window

-- a list cut, or lengthened by this element, to this many elements
abbrev pub fitted : {X : Type 0} → X → ℕ → List X → List X
fitted none zero xs = []
fitted none (suc n) [] = none ∷ fitted none n []
fitted none (suc n) (x ∷ xs) = x ∷ fitted none n xs

-- the requests that wait at each cell
abbrev pub lists_of : List (Option Held) → List (List Waiter)
lists_of cells = map waiters_in cells
