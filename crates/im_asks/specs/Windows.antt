-- Where an element's next request stands in its window. (Own.)
use Rattle.std.specs.Prelude.{◌≡◌, ℕ, ◌+◌, ◌<◌, ◌≤◌, Bool, true, false, ◌⊎◌, Ok}
use Rattle.im_types.specs.Types.{WINDOW, Contents, kept_for, bounds}
use Rattle.im_groups.specs.Ahead.{is_answered_or}
use Rattle.im_asks.specs.declared.window_place.WindowPlace.TheVariants.{Confirm, Full, Next}
use Rattle.im_asks.specs.declared.window_place.WindowPlace.{WindowPlace}

-- whether the entry under an element's number is kept and answered
abbrev pub is_answered_at : Contents → ℕ → ℕ → Bool
is_answered_at m element number =
    is_answered_or false (kept_for m.windows (record { element = element; number = number }))

-- The entries are answered from the base on up to this number. Its own isn't, or it is the next one.
pub record AreAnsweredUpTo (m : Contents) (element : ℕ) (b : ℕ × ℕ) (upto : ℕ) : Type 0 where
  pub from : b.0 ≤ upto
  pub within : upto ≤ b.1
  pub answered : (number : ℕ) → b.0 ≤ number → number < upto → is_answered_at m element number ≡ true
  pub ends : (upto ≡ b.1) ⊎ (is_answered_at m element upto ≡ false)

-- where the next request of an element stands in a window with these bounds
abbrev pub IsPlaceWithin : Contents → ℕ → ℕ × ℕ → WindowPlace → Type 0
IsPlaceWithin m element b (Next number) = (number ≡ b.1) × (b.1 < b.0 + WINDOW)
IsPlaceWithin m element b (Confirm base upto) =
    (base ≡ b.0) × (b.0 + WINDOW ≤ b.1) × (b.0 < upto) × AreAnsweredUpTo m element b upto
IsPlaceWithin m element b Full = (b.0 + WINDOW ≤ b.1) × AreAnsweredUpTo m element b b.0

-- where the next request of an element stands in its window
abbrev pub IsWindowPlace : Contents → ℕ → WindowPlace → Type 0
IsWindowPlace m element place =
    (b : ℕ × ℕ) × (bounds m.windows element ≡ Ok b) × IsPlaceWithin m element b place

-- the window of an element is full, and is to be confirmed up to this number: its entries are answered
abbrev pub IsDue : Contents → ℕ → ℕ → Type 0
IsDue m element upto = (base : ℕ) × IsWindowPlace m element (Confirm base upto)
