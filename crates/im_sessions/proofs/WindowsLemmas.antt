-- All windows, after one of them changes.
use Rattle.std.proofs.Common.{◌≡◌, ℕ, zero, suc, ◌-◌, ◌<◌, Bool, true, false, cond, ◌⊎◌, List, [], ◌∷◌, length, get_or}
use Rattle.std.proofs.Common.{set, replicate, IfErr, OnOk, nat_lt, slice_get, Some, None, Ok, Err, Option, Result}
use Rattle.std.proofs.Common.{MatchResult, option_and_then, sym, refl, ap, ◌∙◌, subst, inl, inr, ⊎_elim, arith}
use Rattle.std.proofs.lemmas.{List.set-get_or, Option.slice_get-get_or}
use Rattle.im_types.specs.Types.{Entry, Waiter, Kept, Waiting, Answered, Refusal, Forgotten, Window, new_window}
use Rattle.im_types.specs.Types.{kept_under, kept_for, IsWindow, is_waiting_entry, is_waiting, confirm_window}
use Rattle.im_types.specs.Types.{ask_number, ask_window, ask}
use Rattle.im_sessions.specs.Windows.{AreWindows}

IsWindow-new_window : IsWindow new_window
IsWindow-new_window = record { from_one = omega arith; few = omega arith; to_last = omega arith }

pub AreWindows-replicate : (elements : ℕ) → AreWindows (replicate elements new_window)
AreWindows-replicate zero element w is = absurd (cc)
AreWindows-replicate (suc elements) zero w is = let same : new_window
    ≡ w = cc in subst IsWindow same IsWindow-new_window
AreWindows-replicate (suc elements) (suc element) w is = AreWindows-replicate elements element w is

-- after a write, what stands at a place is the new window, or what stood there
slice_get-set : (windows : List Window) (changed element : ℕ) (new w : Window)
    → slice_get (set windows changed new) element ≡ Some w → (new ≡ w) ⊎ (slice_get windows element ≡ Some w)
slice_get-set [] changed element new w is = absurd (cc)
slice_get-set (v ∷ windows) zero zero new w is = inl (cc)
slice_get-set (v ∷ windows) zero (suc element) new w is = inr is
slice_get-set (v ∷ windows) (suc changed) zero new w is = inr is
slice_get-set (v ∷ windows) (suc changed) (suc element) new w is = slice_get-set windows changed element new w is

pub AreWindows-set : (windows : List Window) (changed : ℕ) (new : Window) → AreWindows windows → IsWindow new
    → AreWindows (set windows changed new)
AreWindows-set windows changed new are sound element w is = ⊎_elim (λ same. subst IsWindow same sound)
    (are element w) (slice_get-set windows changed element new w is)

module _ (windows : List Window) (element upto : ℕ) (old new : Window) (within : element < length windows)
    (at : old ≡ get_or windows element old) where
  -- what a confirmation of one window says of it
  abbrev pub Confirms : Result (Unit {0}) Refusal → Type 0
  Confirms result = MatchResult result (λ _. confirm_window upto (Some old) ≡ Ok new)
      (λ refusal. (confirm_window upto (Some old) ≡ Err refusal) × (new ≡ old))

  stood : slice_get windows element ≡ Some old
  stood = slice_get-get_or windows element old within ∙ ap Some (sym at)

  unchanged : new ≡ old → set windows element new ≡ windows
  unchanged same = ap (set windows element) (same ∙ at) ∙ set-get_or windows element old

  pub confirm-windows : AreWindows windows → (result : Result (Unit {0}) Refusal) → Confirms result
      → OnOk result (IsWindow new) → AreWindows (set windows element new)
  confirm-windows are (Ok u) m sound = AreWindows-set windows element new are sound
  confirm-windows are (Err refusal) m sound = subst AreWindows (sym (unchanged m.1)) are

  -- said of the windows as callers see them
  pub confirm-ok : (seen : List Window) → windows ≡ seen → (result : Result (Unit {0}) Refusal) → Confirms result
      → OnOk result ((w : Window) × (confirm_window upto (slice_get seen element) ≡ Ok w)
      × (set windows element new ≡ set seen element w))
  confirm-ok seen is (Ok u) m = (
    new,
    ap (λ ws. confirm_window upto (slice_get ws element)) (sym is) ∙ ap (confirm_window upto) stood
        ∙ m,
    ap (λ ws. set ws element new) is,
  )
  confirm-ok seen is (Err refusal) m = tt

  pub confirm-err : (seen : List Window) → windows ≡ seen → (result : Result (Unit {0}) Refusal) → Confirms result
      → IfErr result (λ refusal. (confirm_window upto (slice_get seen element) ≡ Err refusal)
      × (set windows element new ≡ seen))
  confirm-err seen is (Ok u) m = tt
  confirm-err seen is (Err refusal) m = (
    ap (λ ws. confirm_window upto (slice_get ws element)) (sym is) ∙ ap (confirm_window upto) stood
        ∙ m.0,
    unchanged m.1 ∙ is,
  )

is_waiting-entry : (entry : Entry) → is_waiting_entry entry ≡ true → entry ≡ Waiting
is_waiting-entry Waiting waits = refl
is_waiting-entry (Answered reply) waits = absurd (cc)

-- what `answer` asks of its caller, from what is kept
pub ask-waiting : (windows : List Window) (who : Waiter) (k : Kept) → kept_for windows who ≡ Some k → is_waiting k
    ≡ true → ask windows who ≡ Ok Waiting
ask-waiting windows who k is waits = by_window (slice_get windows who.element) is
    ∙ ap Ok (is_waiting-entry k.entry waits)
  where
    by_test : (b : Bool) (o : Option Kept) → cond b None o ≡ Some k → cond b (Err Forgotten) (ask_number o) ≡ Ok k.entry
    by_test true o e = absurd (cc)
    by_test false None e = absurd (cc)
    by_test false (Some x) e = let same : x ≡ k = cc in ap (λ (k : Kept). Ok k.entry) same

    by_window : (o : Option Window) → option_and_then (λ w. kept_under w who.number) o ≡ Some k
        → ask_window who.number o ≡ Ok k.entry
    by_window None e = absurd (cc)
    by_window (Some w) e = by_test (nat_lt who.number w.base) (slice_get w.kept (who.number - w.base)) e
