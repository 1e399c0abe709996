-- A command before the commands ahead of it have acted, and what is known of it. (Own.)
use Rattle.std.specs.Prelude.{◌≡◌, ℕ, ◌+◌, ◌<◌, ◌≤◌, Bool, true, false, ◌&&◌, List, [], ◌∷◌, ◌++◌, length}
use Rattle.std.specs.Prelude.{if◌then◌else◌, nat_lt, ◌==◌, slice_get, Some, None, Ok, Err, Option, Result}
use Rattle.std.specs.List.{list_any}
use Rattle.im_types.specs.Types.{Op, Waiter, Kept, Alloc, Release, Reset, Fetch, Store, Take, Put, Request, Command}
use Rattle.im_types.specs.Types.{Asks, Confirm, Refusal, WINDOW, LAST, Contents, kept_for, is_waiting, bounds, after}
use Rattle.im_types.specs.Types.{accept_each}

-- each of these commands is accepted in its turn
abbrev pub AreAccepted : Contents → List Command → Type 0
AreAccepted m commands = accept_each m commands ≡ Some (after m commands)

-- a window's bounds after an accepted command: a request of its element takes the next number, and a confirmation moves
-- the base
abbrev pub bounds_behind : ℕ → Command → (ℕ × ℕ) → (ℕ × ℕ)
bounds_behind element (Asks r) b = if r.element == element then (b.0, b.1 + 1) else b
bounds_behind element (Confirm other upto) b = if other == element then (upto, b.1) else b

-- the bounds after several accepted commands
abbrev pub bounds_behind_all : ℕ → List Command → (ℕ × ℕ) → (ℕ × ℕ)
bounds_behind_all element [] b = b
bounds_behind_all element (command ∷ commands) b = bounds_behind_all element commands (bounds_behind element command b)

-- the same for a window that may not exist
abbrev pub moved_by : ℕ → List Command → Result (ℕ × ℕ) Refusal → Result (ℕ × ℕ) Refusal
moved_by element commands (Ok b) = Ok (bounds_behind_all element commands b)
moved_by element commands (Err refusal) = Err refusal

-- within these bounds the request is the next one, its number isn't past the last one of all, and the window has room
abbrev pub is_next : ℕ × ℕ → Request → Bool
is_next b r = (r.number == b.1) && (nat_lt r.number (b.0 + WINDOW) && nat_lt r.number (LAST + 1))

-- the operation is answered at once, whatever the cells are: it isn't one that may wait
abbrev pub is_at_once : Op → Bool
is_at_once (Alloc kind n) = true
is_at_once (Release a) = true
is_at_once (Reset a) = true
is_at_once (Fetch a) = false
is_at_once (Store a v) = true
is_at_once (Take a) = false
is_at_once (Put a v) = true

-- the command is the request under this number, and is answered at once
abbrev pub asks_at_once : Waiter → Command → Bool
asks_at_once who (Asks r) = (r.element == who.element) && ((r.number == who.number) && is_at_once r.op)
asks_at_once who (Confirm element upto) = false

-- the kept entry is answered; if none is kept, this truth value
abbrev pub is_answered_or : Bool → Option Kept → Bool
is_answered_or at_once (Some k) = if is_waiting k then false else true
is_answered_or at_once None = at_once

-- the entry under this number is answered already, or will be at once by a request among these
abbrev pub is_sure : Contents → List Command → Waiter → Bool
is_sure m ahead who = is_answered_or (list_any (asks_at_once who) ahead) (kept_for m.windows who)

-- the confirmation would drop an entry, and before the commands ahead of it act it isn't known that this entry is
-- answered
pub record DropsUnsure (m : Contents) (ahead : List Command) (element upto : ℕ) : Type 0 where
  pub base : ℕ
  pub next : ℕ
  pub are : bounds (after m ahead).windows element ≡ Ok (base, next)
  pub reached : upto ≤ next
  pub number : ℕ
  pub from : base ≤ number
  pub below : number < upto
  pub unsure : is_sure m ahead (record { element = element; number = number }) ≡ false
  -- with no command ahead, all is known
  pub behind : 0 < length ahead

-- it isn't known before the commands ahead of it act whether the command is accepted: it is a confirmation
abbrev pub IsUnsure : Contents → List Command → Command → Type 0
IsUnsure m ahead (Asks r) = ⊥
IsUnsure m ahead (Confirm element upto) = DropsUnsure m ahead element upto

-- `many` members are judged: at least one, and all up to the first member whose acceptance isn't known
pub record ServesPrefix (m : Contents) (put members : List Command) (many : ℕ) : Type 0 where
  pub within : many ≤ length members
  pub some : 0 < length members → 0 < many
  pub stops : (command : Command) → slice_get members many ≡ Some command → IsUnsure m put command

-- `many` members are judged behind the commands of a group ahead: all up to the first member whose acceptance isn't
-- known, and at least one if no command is ahead
pub record ServesBehind (m : Contents) (ahead put members : List Command) (many : ℕ) : Type 0 where
  pub within : many ≤ length members
  pub some : length ahead ≡ 0 → 0 < length members → 0 < many
  pub stops : (command : Command) → slice_get members many ≡ Some command → IsUnsure m (ahead ++ put) command
