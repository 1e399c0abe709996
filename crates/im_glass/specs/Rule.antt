-- The rule of the two copies. (Own.)
use Rattle.std.specs.Prelude.{◌≡◌, ℕ, List, Some, None}
use Rattle.logbook.specs.Pages.{Book}
use Rattle.im_glass.specs.Copies.{CopyState, History, IsKeptCopy}
use Rattle.im_glass.specs.declared.{copies.Copy.Copy, rule.Known.Known}
use mathlib.Core.Option.{some}
use lib.ListN.{get_elem?}

-- a copy, as its state
abbrev pub copy_state : Copy → CopyState
copy_state copy = (copy.seen, copy.cells, copy.count)

-- a copy that is kept, and of this book
abbrev pub IsKeptOf : Book → Copy → Type 0
IsKeptOf book copy = (copy.seen.book ≡ book) × IsKeptCopy (copy_state copy)

-- what it has seen, if anything, is of this book
abbrev pub IsKnownOf : Known → Book → Type 0
IsKnownOf known book = (seen : History) → known.seen ≡ Some seen → seen.book ≡ book

-- what is shown is kept, and each who has seen it knows its book
abbrev pub IsShownCopy : Copy → List Known → Type 0
IsShownCopy copy knowns =
    IsKeptCopy (copy_state copy)
    × ((seat : ℕ) (known : Known) → get_elem? knowns seat ≡ some known → IsKnownOf known copy.seen.book)

-- a look sees what is then shown, which is kept and of the book that was known
abbrev pub SeesShown : Known → Copy → Copy → Known → Type 0
SeesShown known old new now = (now.seen ≡ Some new.seen) × IsKeptCopy (copy_state new) × IsKnownOf known new.seen.book

-- one who has seen nothing
abbrev pub newcomer : Known
newcomer = record { seen = None }

-- one who has seen something of this book
abbrev pub HasSeen : Known → Book → Type 0
HasSeen known book = (seen : History) × (known.seen ≡ Some seen) × (seen.book ≡ book)
