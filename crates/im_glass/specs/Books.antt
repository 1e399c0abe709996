-- The rule of the book: its one word is the number of changes. (Own.)
use Rattle.std.specs.Prelude.{◌≡◌, ℕ, ◌<◌, true, List, [], ◌∷◌, ◌++◌, length, ◌==◌, MatchBool}
use Rattle.logbook.specs.Pages.{Book, Cell, Named, Step, View}
use Rattle.im_types.specs.Types.{Change}
use mathlib.Core.List.{IsPrefix}

-- the first word is the length of the list; a book has two words, and this book leaves the second at 0
pub record CountsChanges (cells : List Cell) (log : List Change) : Type 0 where
  pub words : cells ≡ (length log, true) ∷ (0, true) ∷ []

-- the word of a book
abbrev pub head_of : Book → Named
head_of book = record { tracked = true; key = 0; book = book }

-- the change was added to all that had been seen; or the list was longer, and was seen
abbrev pub AddsChange : Step Change → View Change ℕ → ℕ → View Change ℕ → Type 0
AddsChange s old found new = MatchBool (found == s.old) (new.0 ≡ old.0 ++ s.ask ∷ []) (length new.0 ≡ found)

-- the first list is a prefix of the second, which is longer
abbrev pub IsLonger : List Change → List Change → Type 0
IsLonger xs ys = IsPrefix xs ys × (length xs < length ys)
