-- Entries of a window, looked at one by one.
use Rattle.std.proofs.Common.{◌≡◌, ℕ, zero, suc, ◌+◌, ◌-◌, ◌<◌, ◌≤◌, Bool, ◌||◌, List, [], ◌∷◌, take, drop, slice_get}
use Rattle.std.proofs.Common.{Some, sym, refl, ap, ◌∙◌, arith}
use Rattle.std.specs.List.{list_any}
use Rattle.im_types.specs.Types.{Waiter, Kept, Window, kept_for, is_waiting}
use Rattle.im_laws.proofs.WindowLemmas.{kept_for-here, kept_under-from}
use Rattle.im_memory.specs.Confirming.{does_wait}

-- the first of these entries waits, or one of the rest
any-step : (kept : List Kept) (i m : ℕ) → list_any is_waiting (take (suc m) (drop i kept))
    ≡ (does_wait (slice_get kept i) || list_any is_waiting (take m (drop (suc i) kept)))
any-step [] zero zero = refl
any-step [] zero (suc m) = refl
any-step [] (suc i) zero = refl
any-step [] (suc i) (suc m) = refl
any-step (k ∷ kept) zero m = refl
any-step (k ∷ kept) (suc i) m = any-step kept i m

-- the test of the entries below a number goes on at the next one
pub waits-step : (windows : List Window) (w : Window) (who : Waiter) → slice_get windows who.element ≡ Some w
    → w.base ≤ who.number → (upto : ℕ) → who.number < upto → (b : Bool) → b ≡ does_wait (kept_for windows who)
    → list_any is_waiting (take (upto - who.number) (drop (who.number - w.base) w.kept))
    ≡ (b || list_any is_waiting (take (upto - (who.number + 1)) (drop (who.number + 1 - w.base) w.kept)))
waits-step windows w who at from upto below b e =
    let m : upto - who.number ≡ suc (upto - (who.number + 1)) = omega arith in
    let i : suc (who.number - w.base) ≡ who.number + 1 - w.base = omega arith in
    let here : kept_for windows who
    ≡ slice_get w.kept (who.number - w.base) = kept_for-here windows who.element w who at refl
    ∙ kept_under-from w who.number from in
    ap (λ m. list_any is_waiting (take m (drop (who.number - w.base) w.kept))) m
    ∙ any-step w.kept (who.number - w.base) (upto - (who.number + 1))
    ∙ ap (λ i. does_wait (slice_get w.kept (who.number - w.base)) || list_any is_waiting
    (take (upto - (who.number + 1)) (drop i w.kept))) i
    ∙ ap (λ k. does_wait k || list_any is_waiting
    (take (upto - (who.number + 1)) (drop (who.number + 1 - w.base) w.kept))) (sym here)
    ∙ ap (λ b. b || list_any is_waiting (take (upto - (who.number + 1)) (drop (who.number + 1 - w.base) w.kept)))
    (sym e)
