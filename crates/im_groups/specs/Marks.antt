-- Marks of the elements that commands are of. (Own.)
use Rattle.std.specs.Prelude.{◌≡◌, ℕ, Bool, true, List, [], ◌∷◌, slice_index_or}
use Rattle.im_types.specs.Types.{Command, Asks, Confirm}

-- the element that a command is of
abbrev pub element_behind : Command → ℕ
element_behind (Asks r) = r.element
element_behind (Confirm element upto) = element

-- the element has a mark, or is past the last mark
abbrev pub has_mark : List Bool → ℕ → Bool
has_mark marks element = slice_index_or marks element true

-- the element of each of these commands has a mark
abbrev pub HaveMarks : List Bool → List Command → Type 0
HaveMarks marks [] = Unit {0}
HaveMarks marks (c ∷ cs) = (has_mark marks (element_behind c) ≡ true) × HaveMarks marks cs
