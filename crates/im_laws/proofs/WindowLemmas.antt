-- What is kept, after an entry is added, answered or dropped.
use Rattle.std.proofs.Common.{◌≡◌, ℕ, zero, suc, ◌+◌, ◌-◌, ◌<◌, ◌≤◌, Bool, true, false, cond, ◌&&◌, List, [], ◌∷◌, ◌++◌}
use Rattle.std.proofs.Common.{length, get_or, set, nat_lt, ◌==◌, slice_get, Some, None, Option, option_map}
use Rattle.std.proofs.Common.{option_and_then, sym, refl, ap, ◌∙◌, ⊎_elim, arith}
use Rattle.std.proofs.lemmas.Bool.Decides.{nat_tests}
use Rattle.im_types.specs.Types.{Entry, Op, Reply, Waiter, Kept, Answered, Request, Window, new_window, kept_under}
use Rattle.im_types.specs.Types.{kept_for, same_waiter, note_in, note, answer_at, answer_in, answer, asker}
use Rattle.im_laws.proofs.Tests.{below_or_from, cond_same, eq_by_test}

slice_get-push : (kept : List Kept) (k : Kept) (place : ℕ)
    → slice_get (kept ++ k ∷ []) place ≡ cond (place == length kept) (Some k) (slice_get kept place)
slice_get-push [] k zero = refl
slice_get-push [] k (suc place) = let e : (suc place == 0)
    ≡ false = grind (arith, nat_tests) in sym (ap (λ b. cond b (Some k) None) e)
slice_get-push (x ∷ kept) k zero = let e : (0 == suc (length kept))
    ≡ false = grind (arith, nat_tests) in sym (ap (λ b. cond b (Some k) (Some x)) e)
slice_get-push (x ∷ kept) k (suc place) =
    let e : (suc place == suc (length kept)) ≡ (place == length kept) = grind (arith, nat_tests) in
    slice_get-push kept k place ∙ sym (ap (λ b. cond b (Some k) (slice_get kept place)) e)

abbrev pub answered_kept : Reply → Kept → Kept
answered_kept reply k = record { op = k.op; entry = Answered reply }

slice_get-answer_at : (kept : List Kept) (place at : ℕ) (reply : Reply)
    → slice_get (answer_at place reply kept) at
    ≡ cond (at == place) (option_map (answered_kept reply) (slice_get kept at)) (slice_get kept at)
slice_get-answer_at [] place at reply = cond_same (at == place) None
slice_get-answer_at (k ∷ kept) zero zero reply = refl
slice_get-answer_at (k ∷ kept) zero (suc at) reply =
    let e : (suc at == 0)
    ≡ false = grind (arith, nat_tests) in sym
    (ap (λ b. cond b (option_map (answered_kept reply) (slice_get kept at)) (slice_get kept at)) e)
slice_get-answer_at (k ∷ kept) (suc place) zero reply =
    let e : (0 == suc place)
    ≡ false = grind (arith, nat_tests) in sym (ap (λ b. cond b (Some (answered_kept reply k)) (Some k)) e)
slice_get-answer_at (k ∷ kept) (suc place) (suc at) reply =
    let e : (suc at == suc place) ≡ (at == place) = grind (arith, nat_tests) in
    slice_get-answer_at kept place at reply
    ∙ sym (ap (λ b. cond b (option_map (answered_kept reply) (slice_get kept at)) (slice_get kept at)) e)

-- under a number below the base nothing is kept
pub kept_under-below : (w : Window) (n : ℕ) → n < w.base → kept_under w n ≡ None
kept_under-below w n h = let e : nat_lt n w.base
    ≡ true = grind (arith, nat_tests) in ap (λ b. cond b None (slice_get w.kept (n - w.base))) e

pub kept_under-from : (w : Window) (n : ℕ) → w.base ≤ n → kept_under w n ≡ slice_get w.kept (n - w.base)
kept_under-from w n h = let e : nat_lt n w.base
    ≡ false = grind (arith, nat_tests) in ap (λ b. cond b None (slice_get w.kept (n - w.base))) e

pub kept_under-note_in : (op : Op) (entry : Entry) (w : Window) (n : ℕ)
    → kept_under (note_in op entry w) n
    ≡ cond (n == w.base + length w.kept) (Some (record { op = op; entry = entry })) (kept_under w n)
kept_under-note_in op entry w n = ⊎_elim
    (λ h. let e : (n == w.base + length w.kept) ≡ false = grind (arith, nat_tests) in
    kept_under-below (note_in op entry w) n h
    ∙ sym (ap (λ b. cond b (Some (record { op = op; entry = entry })) (kept_under w n)) e ∙ kept_under-below w n h))
    (λ h. let e : (n - w.base == length w.kept) ≡ (n == w.base + length w.kept) = grind (arith, nat_tests) in
    kept_under-from (note_in op entry w) n h ∙ slice_get-push w.kept (record { op = op; entry = entry }) (n - w.base)
    ∙ ap (λ b. cond b (Some (record { op = op; entry = entry })) (slice_get w.kept (n - w.base))) e
    ∙ sym (ap (cond (n == w.base + length w.kept) (Some (record { op = op; entry = entry }))) (kept_under-from w n h)))
    (below_or_from n w.base)

pub kept_under-answer_in : (number : ℕ) (reply : Reply) (w : Window) (n : ℕ) → w.base ≤ number
    → kept_under (answer_in number reply w) n
    ≡ cond (n == number) (option_map (answered_kept reply) (kept_under w n)) (kept_under w n)
kept_under-answer_in number reply w n from = ⊎_elim
    (λ h. let e : (n == number) ≡ false = grind (arith, nat_tests) in
    kept_under-below (answer_in number reply w) n h
    ∙ sym (ap (λ b. cond b (option_map (answered_kept reply) (kept_under w n)) (kept_under w n)) e
    ∙ kept_under-below w n h))
    (λ h. let e : (n - w.base == number - w.base) ≡ (n == number) = grind (arith, nat_tests) in
    kept_under-from (answer_in number reply w) n h ∙ slice_get-answer_at w.kept (number - w.base) (n - w.base) reply
    ∙ ap (λ b. cond b (option_map (answered_kept reply) (slice_get w.kept (n - w.base)))
    (slice_get w.kept (n - w.base))) e
    ∙ sym (ap (λ k. cond (n == number) (option_map (answered_kept reply) k) k) (kept_under-from w n h)))
    (below_or_from n w.base)

-- one window changes
pub slice_get-set : (windows : List Window) (e f : ℕ) (w new : Window) → slice_get windows e ≡ Some w
    → slice_get (set windows e new) f ≡ cond (f == e) (Some new) (slice_get windows f)
slice_get-set [] e f w new at = absurd (cc)
slice_get-set (v ∷ windows) zero zero w new at = refl
slice_get-set (v ∷ windows) zero (suc f) w new at = let e : (suc f == 0)
    ≡ false = grind (arith, nat_tests) in sym (ap (λ b. cond b (Some new) (slice_get windows f)) e)
slice_get-set (v ∷ windows) (suc e) zero w new at = let t : (0 == suc e)
    ≡ false = grind (arith, nat_tests) in sym (ap (λ b. cond b (Some new) (Some v)) t)
slice_get-set (v ∷ windows) (suc e) (suc f) w new at =
    let t : (suc f == suc e) ≡ (f == e) = grind (arith, nat_tests) in slice_get-set windows e f w new at
    ∙ sym (ap (λ b. cond b (Some new) (slice_get windows f)) t)

pub window_at : (windows : List Window) (e : ℕ) (w : Window) → slice_get windows e ≡ Some w
    → get_or windows e new_window ≡ w
window_at [] e w at = absurd (cc)
window_at (v ∷ windows) zero w at = cc
window_at (v ∷ windows) (suc e) w at = window_at windows e w at

pub kept_for-set : (windows : List Window) (e : ℕ) (w new : Window) (who : Waiter) → slice_get windows e ≡ Some w
    → kept_for (set windows e new) who ≡ cond (who.element == e) (kept_under new who.number) (kept_for windows who)
kept_for-set windows e w new who at = ap (option_and_then (λ w. kept_under w who.number))
    (slice_get-set windows e who.element w new at)
    ∙ by_test (who.element == e)
  where
    by_test : (b : Bool)
        → option_and_then (λ w. kept_under w who.number) (cond b (Some new) (slice_get windows who.element))
        ≡ cond b (kept_under new who.number) (kept_for windows who)
    by_test true = refl
    by_test false = refl

-- of a request of the same element
pub kept_for-here : (windows : List Window) (e : ℕ) (w : Window) (who : Waiter) → slice_get windows e ≡ Some w
    → who.element ≡ e
    → kept_for windows who ≡ kept_under w who.number
kept_for-here windows e w who at same = ap (option_and_then (λ w. kept_under w who.number))
    (ap (slice_get windows) same ∙ at)

-- by two tests
both_tests : {X : Type 0} (a b : Bool) (x y z : X) → (a ≡ true → z ≡ y) → cond a (cond b x y) z ≡ cond (a && b) x z
both_tests true true x y z h = refl
both_tests true false x y z h = sym (h refl)
both_tests false b x y z h = refl

-- a new request is kept
pub kept_for-note : (windows : List Window) (r : Request) (entry : Entry) (w : Window) (who : Waiter)
    → slice_get windows r.element ≡ Some w
    → r.number ≡ w.base + length w.kept
    → kept_for (note windows r entry) who
    ≡ cond (same_waiter who (asker r)) (Some (record { op = r.op; entry = entry })) (kept_for windows who)
kept_for-note windows r entry w who at next =
    kept_for-set windows r.element w (note_in r.op entry (get_or windows r.element new_window)) who at
    ∙ ap (λ v. cond (who.element == r.element) (kept_under (note_in r.op entry v) who.number) (kept_for windows who))
    (window_at windows r.element w at)
    ∙ ap (λ k. cond (who.element == r.element) k (kept_for windows who))
    (kept_under-note_in r.op entry w who.number
    ∙ ap (λ n. cond (who.number == n) (Some (record { op = r.op; entry = entry })) (kept_under w who.number))
    (sym next))
    ∙ both_tests (who.element == r.element) (who.number == r.number) (Some (record { op = r.op; entry = entry }))
    (kept_under w who.number) (kept_for windows who)
    (λ e. kept_for-here windows r.element w who at (eq_by_test who.element r.element e))

-- a kept request is answered
pub kept_for-answer : (windows : List Window) (other : Waiter) (reply : Reply) (w : Window) (who : Waiter)
    → slice_get windows other.element ≡ Some w → w.base ≤ other.number
    → kept_for (answer windows other reply) who
    ≡ cond (same_waiter who other) (option_map (answered_kept reply) (kept_for windows who)) (kept_for windows who)
kept_for-answer windows other reply w who at from =
    kept_for-set windows other.element w (answer_in other.number reply (get_or windows other.element new_window)) who at
    ∙ ap (λ v. cond (who.element == other.element) (kept_under (answer_in other.number reply v) who.number)
    (kept_for windows who)) (window_at windows other.element w at)
    ∙ ap (λ k. cond (who.element == other.element) k (kept_for windows who))
    (kept_under-answer_in other.number reply w who.number from)
    ∙ here (who.element == other.element) refl
  where
    here : (t : Bool) → (who.element == other.element) ≡ t
        → cond t (cond (who.number == other.number) (option_map (answered_kept reply) (kept_under w who.number))
        (kept_under w who.number)) (kept_for windows who)
        ≡ cond (t && (who.number == other.number)) (option_map (answered_kept reply) (kept_for windows who))
        (kept_for windows who)
    here true e = ap (λ k. cond (who.number == other.number) (option_map (answered_kept reply) k) k)
        (sym (kept_for-here windows other.element w who at (eq_by_test who.element other.element e)))
    here false e = refl

-- where something is kept, there is a window and the number isn't below its base
pub kept_for-window : (windows : List Window) (who : Waiter) (k : Kept) → kept_for windows who ≡ Some k
    → (w : Window) × (slice_get windows who.element ≡ Some w) × (w.base ≤ who.number)
kept_for-window windows who k is = by_window (slice_get windows who.element) refl is
  where
    by_window : (o : Option Window) → slice_get windows who.element ≡ o
        → option_and_then (λ w. kept_under w who.number) o ≡ Some k
        → (w : Window) × (slice_get windows who.element ≡ Some w) × (w.base ≤ who.number)
    by_window None at e = absurd (cc)
    by_window (Some w) at e = (
      w,
      at,
      ⊎_elim (λ h. absurd (no_entry (sym (kept_under-below w who.number h) ∙ e))) (λ h. h)
          (below_or_from who.number w.base),
    )
      where
        no_entry : None ≡ Some k → ⊥
        no_entry e = cc
