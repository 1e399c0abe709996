-- Windows over time: bounds that never go back, and numbers that are dropped for good. (Own.)
use Rattle.std.specs.Prelude.{◌≡◌, ℕ, ◌+◌, ◌<◌, ◌≤◌, true, false, ◌≢◌, List, if◌then◌else◌, slice_get, Some, None, Ok}
use Rattle.std.specs.Prelude.{Result}
use Rattle.im_types.specs.Types.{Waiter, Kept, Request, Asks, Confirm, Refusal, WINDOW, LAST, Window, Contents}
use Rattle.im_types.specs.Types.{kept_for, drops, is_waiting, bounds, step}

-- the number was confirmed: it lies below the base of its element's window
pub record IsForgotten (windows : List Window) (who : Waiter) : Type 0 where
  pub window : Window
  pub there : slice_get windows who.element ≡ Some window
  pub below : who.number < window.base

-- these are a window's bounds, and neither of them is less than before
pub record AreNoLess (base next : ℕ) (now : Result (ℕ × ℕ) Refusal) : Type 0 where
  pub base_now : ℕ
  pub next_now : ℕ
  pub are : now ≡ Ok (base_now, next_now)
  pub base_rises : base ≤ base_now
  pub next_rises : next ≤ next_now

-- the request has its element's next number, and after it the next number is one more; the base stays, and so do the
-- bounds of all other windows
pub record TakesNextNumber (m : Contents) (r : Request) : Type 0 where
  pub base : ℕ
  pub before : bounds m.windows r.element ≡ Ok (base, r.number)
  pub after : bounds (step m (Asks r)).contents.windows r.element ≡ Ok (base, r.number + 1)
  pub others : (element : ℕ) → element ≢ r.element
      → bounds (step m (Asks r)).contents.windows element ≡ bounds m.windows element

-- the base rises to the confirmed number; the next number stays, and so do the bounds of all other windows
pub record MovesBase (m : Contents) (element upto : ℕ) : Type 0 where
  pub base : ℕ
  pub next : ℕ
  pub before : bounds m.windows element ≡ Ok (base, next)
  pub after : bounds (step m (Confirm element upto)).contents.windows element ≡ Ok (upto, next)
  pub rises : base < upto
  pub reached : upto ≤ next
  pub others : (other : ℕ) → other ≢ element
      → bounds (step m (Confirm element upto)).contents.windows other ≡ bounds m.windows other

-- the request has its element's next number, which isn't past the last number of all, and the window has room for it
pub record IsNextRequest (windows : List Window) (r : Request) : Type 0 where
  pub base : ℕ
  pub are : bounds windows r.element ≡ Ok (base, r.number)
  pub room : r.number < base + WINDOW
  pub to_last : r.number ≤ LAST

-- there is such a window, this number isn't past its next number, and no entry below it waits
pub record IsConfirmable (windows : List Window) (element upto : ℕ) : Type 0 where
  pub base : ℕ
  pub next : ℕ
  pub are : bounds windows element ≡ Ok (base, next)
  pub reached : upto ≤ next
  pub answered : (number : ℕ) (k : Kept) → number < upto
      → kept_for windows (record { element = element; number = number }) ≡ Some k
      → is_waiting k ≡ false

-- this number isn't past the next one of the element's window, and an entry below it waits
pub record WaitsBelow (windows : List Window) (element upto : ℕ) : Type 0 where
  pub base : ℕ
  pub next : ℕ
  pub are : bounds windows element ≡ Ok (base, next)
  pub reached : upto ≤ next
  pub number : ℕ
  pub kept : Kept
  pub below : number < upto
  pub is : kept_for windows (record { element = element; number = number }) ≡ Some kept
  pub waits : is_waiting kept ≡ true

-- the confirmation drops the entries below its number, and leaves all others
abbrev pub DropsEntries : Contents → ℕ → ℕ → Type 0
DropsEntries m element upto =
    (who : Waiter) → kept_for (step m (Confirm element upto)).contents.windows who
    ≡ (if drops (Confirm element upto) who then None else kept_for m.windows who)
