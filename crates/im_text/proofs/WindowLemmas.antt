-- The windows of those whose lines are printed. (Own.)
use Rattle.std.proofs.Common.{◌≡◌, ℕ, ◌-◌, ◌≤◌, Bool, false, List, if◌then◌else◌, nat_lt, slice_get, Some, None, Ok}
use Rattle.std.proofs.Common.{Option, option_and_then, refl, ap, ◌∙◌, arith}
use Rattle.std.proofs.lemmas.Bool.Decides.{nat_tests}
use Rattle.im_types.specs.Types.{Window, kept_under, kept_for, next_number, bounds_of}

pub not_below : (n base : ℕ) → base ≤ n → nat_lt n base ≡ false
not_below n base le = grind (arith, nat_tests)

-- what is kept under a number of a window
pub kept_at : (windows : List Window) (element : ℕ) (w : Window) (number : ℕ) → slice_get windows element ≡ Some w → w.base ≤ number
    → kept_for windows (record { element = element; number = number }) ≡ slice_get w.kept (number - w.base)
kept_at windows element w number at below =
    ap (λ found. option_and_then (λ (w : Window). kept_under w number) found) at
    ∙ ap (λ (test : Bool). if test then None else slice_get w.kept (number - w.base)) (not_below number w.base below)

-- a window by its bounds
pub record HasBounds (found : Option Window) (base next : ℕ) : Type 0 where
  pub window : Window
  pub found_is : found ≡ Some window
  pub base_is : base ≡ window.base
  pub next_is : next ≡ next_number window

pub bounds_found : (found : Option Window) (base next : ℕ) → bounds_of found ≡ Ok (base, next) → HasBounds found base next
bounds_found None base next is = absurd (cc)
bounds_found (Some w) base next is =
    let same : (base, next) ≡ (w.base, next_number w) = cc in
    record { window = w; found_is = refl; base_is = ap (λ (b : ℕ × ℕ). b.0) same; next_is = ap (λ (b : ℕ × ℕ). b.1) same }
