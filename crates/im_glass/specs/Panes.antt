-- What contracts see of a pane. (Own.)
use Rattle.std.specs.Prelude.{◌≡◌, ℕ, ◌^◌, Bool, true, List, [], if◌then◌else◌, nat_lt, nat_le}
use Rattle.logbook.specs.Pages.{Book}
use Rattle.im_types.specs.Types.{Change}

-- the changes that are shown, those that are put ahead, how many cells there are, and how many readers weren't given
-- out
pub record PaneView : Type 0 where
  pub shown : List Change
  pub ahead : List Change
  pub cells : ℕ
  pub spare : ℕ

-- a pane that has no name, and on which nothing is put ahead: its book, and the same
pub record UnnamedView : Type 0 where
  pub book : Book
  pub shown : List Change
  pub cells : ℕ
  pub spare : ℕ

-- whether a pane takes no more changes, given how many are put ahead and how many are shown
abbrev pub is_filled : ℕ → ℕ → Bool
is_filled ahead shown = if nat_lt ahead 16 then nat_le (2 ^ 61) shown else true

-- a pane without a name, under a name; nothing is put ahead on it
abbrev pub with_name : UnnamedView → PaneView
with_name u = record { shown = u.shown; ahead = []; cells = u.cells; spare = u.spare }

-- the numbers of cells and of readers that weren't given out stay
pub record HasSame (old new : PaneView) : Type 0 where
  pub cells : new.cells ≡ old.cells
  pub spare : new.spare ≡ old.spare
