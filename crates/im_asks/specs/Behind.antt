-- Where an element's next request stands behind commands that are asked and haven't acted yet. (Own.)
use Rattle.std.specs.Prelude.{◌≡◌, ℕ, ◌+◌, ◌-◌, ◌<◌, ◌≤◌, min, max, Bool, ◌&&◌, ◌≢◌, List, [], ◌∷◌, if◌then◌else◌}
use Rattle.std.specs.Prelude.{nat_lt, ◌==◌, Ok, Err, Result}
use Rattle.im_types.specs.Types.{Request, Command, Outcome, Asks, Confirm as Confirms, Refusal, NotAnswered}
use Rattle.im_types.specs.Types.{JournalFull, WINDOW, LAST, Contents, bounds}
use Rattle.im_groups.specs.Commands.{contents_after_all}
use Rattle.im_asks.specs.declared.window_place.WindowPlace.TheVariants.{Confirm, Full, Next}
use Rattle.im_asks.specs.{declared.window_place.WindowPlace.WindowPlace, Windows.AreAnsweredUpTo}

-- within these bounds the request is the next one, the window has a place, and the number isn't past the last of all
abbrev pub takes_next : ℕ × ℕ → Request → Bool
takes_next b r = (r.number == b.1) && (nat_lt (b.1 - b.0) WINDOW && nat_lt r.number (LAST + 1))

-- a window's bounds behind a command that is asked: the next request takes its number, and a confirmation within the
-- window moves the base; any other command will be refused, or answered as before
abbrev pub bounds_asked : ℕ → Command → ℕ × ℕ → ℕ × ℕ
bounds_asked element (Asks r) b = if (r.element == element) && takes_next b r then (b.0, b.1 + 1) else b
bounds_asked element (Confirms other upto) b =
    if (other == element) && (nat_lt b.0 upto && nat_lt upto (b.1 + 1)) then (upto, b.1) else b

-- the bounds behind all of these
abbrev pub bounds_asked_all : ℕ → List Command → ℕ × ℕ → ℕ × ℕ
bounds_asked_all element [] b = b
bounds_asked_all element (command ∷ commands) b = bounds_asked_all element commands (bounds_asked element command b)

-- the same for a window that may not exist
abbrev pub bounds_reckoned : ℕ → List Command → Result (ℕ × ℕ) Refusal → Result (ℕ × ℕ) Refusal
bounds_reckoned element commands (Ok b) = Ok (bounds_asked_all element commands b)
bounds_reckoned element commands (Err refusal) = Err refusal

-- None of these answers refuses what is reckoned with: the confirmation of an entry that waits, or a command for which
-- there is no place in the journal.
abbrev pub NoneIsMissed : List (Result Outcome Refusal) → Type 0
NoneIsMissed [] = Unit {0}
NoneIsMissed (answer ∷ answers) =
    ((answer ≢ Err NotAnswered) × (answer ≢ Err JournalFull)) × NoneIsMissed answers

-- once these commands have acted with so many places, the window stands where it was reckoned to stand
abbrev pub StandsAsReckoned : Contents → ℕ → ℕ → List Command → Type 0
StandsAsReckoned m left element commands =
    bounds (contents_after_all m left commands).windows element
    ≡ bounds_reckoned element commands (bounds m.windows element)

-- the entries of a window that may be confirmed, if those from a number on are kept
abbrev pub up_to : ℕ → ℕ × ℕ → ℕ × ℕ
up_to most b = (b.0, max b.0 (min most b.1))

-- Where the next request of an element stands in a window that will have these bounds, if its entries from a number on
-- are kept. The memory is as it is now: what is asked hasn't acted.
abbrev pub IsPlaceUpTo : Contents → ℕ → ℕ → ℕ × ℕ → WindowPlace → Type 0
IsPlaceUpTo m element most b (Next number) = (number ≡ b.1) × (b.1 < b.0 + WINDOW)
IsPlaceUpTo m element most b (Confirm base upto) =
    (base ≡ b.0) × (b.0 + WINDOW ≤ b.1) × (b.0 < upto) × AreAnsweredUpTo m element (up_to most b) upto
IsPlaceUpTo m element most b Full = (b.0 + WINDOW ≤ b.1) × AreAnsweredUpTo m element (up_to most b) b.0
