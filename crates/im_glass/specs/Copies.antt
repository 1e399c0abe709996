-- What the two copies hold, and what is put ahead of them. (Own.)
use Rattle.std.specs.Prelude.{◌≡◌, ℕ, true, List, [], ◌∷◌, ◌++◌, length, if◌then◌else◌, slice_index_or, None, fold}
use Rattle.std.specs.Prelude.{Option}
use Rattle.logbook.specs.{declared.tokens.Seen.Seen, Pages.Book}
use Rattle.im_types.specs.Types.{value_after, is_below, Change}
use Rattle.im_glass.specs.{Cells.cells_written, declared.book.InOrder.InOrder, declared.copies.Ahead.Ahead}

-- a prefix of the list of changes
abbrev pub History : Type 0
History = Seen Change ℕ InOrder

-- a copy: the changes, the cells, how many changes
abbrev pub CopyState : Type 0
CopyState = History × List (Option ℕ) × ℕ

-- a copy after a change that was put ahead; a change that isn't of its cells alone leaves it as it is
abbrev pub applied_to : CopyState → Ahead → CopyState
applied_to s ahead =
    if is_below (length s.1) ahead.change then (ahead.seen, cells_written s.1 ahead.change, ahead.count) else s

-- a copy after all that was put ahead
abbrev pub after_all : CopyState → List Ahead → CopyState
after_all s ahead = fold applied_to s ahead

-- the cells are those after the changes, and the count is the number of the changes
pub record IsKeptCopy (s : CopyState) : Type 0 where
  pub values : (a : ℕ) → slice_index_or s.1 a None ≡ value_after a None s.0.log
  pub count : s.2 ≡ length s.0.log

-- what is put ahead continues the book's changes, one after another, and is of the first n cells alone
abbrev pub FollowEach : ℕ → Book → List Change → List Ahead → Type 0
FollowEach n book changes [] = Unit {0}
FollowEach n book changes (ahead ∷ rest) =
    (ahead.seen.book ≡ book) × (ahead.seen.log ≡ changes ++ ahead.change ∷ []) × (ahead.count ≡ length ahead.seen.log)
    × (is_below n ahead.change ≡ true) × FollowEach n book ahead.seen.log rest

-- what is put ahead changes nothing
abbrev pub ChangeNothing : CopyState → List Ahead → Type 0
ChangeNothing s [] = Unit {0}
ChangeNothing s (ahead ∷ rest) = (applied_to s ahead ≡ s) × ChangeNothing s rest

-- the changes that are put ahead
abbrev pub changes_ahead : List Ahead → List Change
changes_ahead [] = []
changes_ahead (ahead ∷ rest) = ahead.change ∷ changes_ahead rest

-- one operation more: it has this change, and the list of this book that ends in it
pub record AddsOne (book : Book) (change : Change) (list : List Change) (before after : List Ahead) : Type 0 where
  pub one : Ahead
  pub is : after ≡ before ++ one ∷ []
  pub change_is : one.change ≡ change
  pub book_is : one.seen.book ≡ book
  pub list_is : one.seen.log ≡ list
  pub count_is : one.count ≡ length list
