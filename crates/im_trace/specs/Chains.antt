-- The book of the lines. A pen writes one entry and is used up, and the entry names the pen of the next one. (Own.)
use Rattle.std.specs.Prelude.{◌≡◌, ℕ, ◌<◌, true, false, List, [], ◌∷◌, ◌++◌, length, if◌then◌else◌, ◌==◌}
use Rattle.logbook.specs.Pages.{Book, Cell, cell, may_make, Named, Step, View}
use Rattle.std.specs.List.{AllByRecursion}
use Rattle.im_types.specs.Types.{Line, Contents, IsMemory}
use Rattle.im_trace.specs.{Books.LinesBook, declared.rule.Link.Link}
use mathlib.Core.List.{IsPrefix}

-- these contents are a memory's, as an engine has them when its trace begins
abbrev pub IsOpened : Contents → Type 0
IsOpened m = IsMemory (length m.cells) (length m.windows) m

-- the word of the pen that wrote an entry is at home: the pen is used up
abbrev pub IsUsed : List Cell → Link → Type 0
IsUsed cells link = (cell cells link.from).1 ≡ true

-- the first word is at home, and the pen of each entry is used up
pub record IsChained (cells : List Cell) (log : List Link) : Type 0 where
  pub head : 0 < length cells
  pub home : (cell cells 0).1 ≡ true
  pub used : AllByRecursion (IsUsed cells) log

-- the first word of a book
abbrev pub first_of_book : Book → Named
first_of_book book = record { tracked = true; key = 0; book = book }

-- what is read off the entries that the pen with this key and the pens after it wrote
abbrev pub read_from : {X : Type 0} → (Link → X) → ℕ → List Link → List X
read_from read key [] = []
read_from read key (link ∷ links) =
    if link.from == key then read link ∷ read_from read link.next links else read_from read key links

-- the lines that the pen with this key and the pens after it wrote
abbrev pub lines_from : ℕ → List Link → List Line
lines_from key links = read_from (λ link. link.line) key links

-- the times of these lines
abbrev pub times_from : ℕ → List Link → List ℕ
times_from key links = read_from (λ link. link.time) key links

-- the key of the pen that writes next
abbrev pub tip_from : ℕ → List Link → ℕ
tip_from key [] = key
tip_from key (link ∷ links) = if link.from == key then tip_from link.next links else tip_from key links

-- another pen wrote an entry
abbrev pub IsApart : ℕ → Link → Type 0
IsApart key link = (link.from == key) ≡ false

-- a step that makes a pen
abbrev pub MakesPen : Step Link → View Link ℕ → ℕ → View Link ℕ → Type 0
MakesPen s old found new = new.1.0.right ≡ may_make

-- a step with a pen that isn't used up: other pens wrote all entries, and none is added
abbrev pub KeepsPen : Step Link → View Link ℕ → ℕ → View Link ℕ → Type 0
KeepsPen s old found new = AllByRecursion (IsApart old.1.0.key) new.0 × (new.1.0 ≡ old.1.0)

-- a step that uses a pen up: other pens wrote all entries, and this pen adds one
abbrev pub UsesPen : Step Link → View Link ℕ → ℕ → View Link ℕ → Type 0
UsesPen s old found new = (log : List Link) × IsPrefix old.0 log × AllByRecursion (IsApart old.1.0.key) log
    × (new.0 ≡ log ++ record { from = old.1.0.key; line = s.ask.line; next = s.ask.next; time = s.ask.time } ∷ [])

-- other pens wrote all entries of what a pen knows, and of what anyone else has seen
pub record KnowsAll (key : ℕ) (known seen : List Link) : Type 0 where
  pub all : List Link
  pub goes : IsPrefix known all
  pub holds : IsPrefix seen all
  pub apart : AllByRecursion (IsApart key) all

-- the lines of a book, and their times
pub record ChainState : Type 0 where
  pub lines : List Line
  pub times : List ℕ

-- the same of a book that has no name any longer, and which book it is
pub record WrittenState : Type 0 where
  pub lines : List Line
  pub times : List ℕ
  pub book : LinesBook
