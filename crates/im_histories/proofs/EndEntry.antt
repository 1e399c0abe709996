-- The last entry that is kept for a request: an answer stays until it is dropped, and then nothing is kept any more.
use Rattle.std.proofs.Common.{◌≡◌, ℕ, zero, suc, ◌+◌, ◌-◌, ◌<◌, ◌≤◌, max, Bool, true, false, cond, ◌⊎◌, List, [], ◌∷◌}
use Rattle.std.proofs.Common.{length, take, drop, set, nat_lt, ◌==◌, slice_get, Some, None, Ok, Err, Option, Result}
use Rattle.std.proofs.Common.{option_map, option_and_then, sym, refl, ap, ◌∙◌, inl, inr, ⊎_elim, arith}
use Rattle.std.proofs.lemmas.{Bool.Decides.nat_tests, Option.none-some, Option.same_Some}
use Rattle.std.specs.List.{list_any}
use Rattle.im_types.specs.Types.{Entry, Reply, Waiter, Kept, Answered, Command, Judged, Asks, Confirm, Fresh, Repeat}
use Rattle.im_types.specs.Types.{Refusal, Gap, NotAnswered, Window, Contents, kept_under, kept_for, WaitingAgrees}
use Rattle.im_types.specs.Types.{StaysOrIsAnswered, drops, act, judge, with_window, note_in, note, answer_in, answer}
use Rattle.im_types.specs.Types.{answer_each, is_waiting_entry, is_waiting, confirm_window, asker, step_request}
use Rattle.im_types.specs.Types.{step_confirm, step, latest, last_kept}
use Rattle.{im_types.proofs.Tests.and_both, im_types.proofs.Tests.false_true, im_laws.proofs.Tests.eq_by_test}
use Rattle.im_histories.proofs.Given.{kept_under-below, step-agrees, step-keeps}

-- in the window of this element the number lies below the base
abbrev pub IsPast : ℕ → ℕ → List Window → Type 0
IsPast element number windows = (w : Window) × (slice_get windows element ≡ Some w) × (number < w.base)

past-with_window : (windows : List Window) (e : ℕ) (change : Window → Window)
    → ((w : Window) → slice_get windows e ≡ Some w → w.base ≤ (change w).base)
    → (element number : ℕ) → IsPast element number windows → IsPast element number (with_window windows e change)
past-with_window [] e change rises element number past = past
past-with_window (v ∷ windows) zero change rises zero number past =
    let same = ap (λ (w : Window). w.base) (same_Some v past.0 past.1) in
    let up = rises v refl in
    (change v, refl, let below = past.2 in omega arith)
past-with_window (v ∷ windows) zero change rises (suc element) number past = past
past-with_window (v ∷ windows) (suc e) change rises zero number past = past
past-with_window (v ∷ windows) (suc e) change rises
    (suc element) number past = past-with_window windows e change rises element number past

past-answer_each : (windows : List Window) (replies : List (Waiter × Reply)) (element number : ℕ)
    → IsPast element number windows
    → IsPast element number (answer_each windows replies)
past-answer_each windows [] element number past = past
past-answer_each windows (r ∷ replies) element number past =
    past-answer_each (answer windows r.0 r.1) replies element number
    (past-with_window windows r.0.element (answer_in r.0.number r.1) (λ w at. omega arith) element number past)

-- a confirmation that isn't refused raises the base
confirm-base : (upto : ℕ) (w new : Window) → confirm_window upto (Some w) ≡ Ok new → (w.base ≤ new.base)
    × (upto ≤ new.base)
confirm-base upto w new e = by_tests (nat_lt (w.base + length w.kept) upto)
    (list_any is_waiting (take (upto - w.base) w.kept)) e
  where
    by_tests : (far waits : Bool)
        → cond far (Err Gap)
        (cond waits (Err NotAnswered)
        (Ok (record { base = max w.base upto; kept = drop (upto - w.base) w.kept }))) ≡ Ok new
        → (w.base ≤ new.base) × (upto ≤ new.base)
    by_tests true waits e = absurd (cc)
    by_tests false true e = absurd (cc)
    by_tests false false e = let is : record { base = max w.base upto; kept = drop (upto - w.base) w.kept }
        ≡ new = cc in let b = ap (λ (w : Window). w.base) is in (omega arith, omega arith)

past-step : (m : Contents) (command : Command) (element number : ℕ) → IsPast element number m.windows
    → IsPast element number (step m command).contents.windows
past-step m (Asks r) element number past = by_judged (judge m.windows r)
  where
    by_judged : (j : Result Judged Refusal) → IsPast element number (step_request m r j).contents.windows
    by_judged (Err refusal) = past
    by_judged (Ok (Repeat entry)) = past
    by_judged (Ok Fresh) =
        let acted = act m.cells (asker r) r.op in
        past-answer_each (note m.windows r acted.entry) acted.resumed element number
        (past-with_window m.windows r.element (note_in r.op acted.entry) (λ w at. omega arith) element number past)
past-step m (Confirm e upto) element number past = by_result (confirm_window upto (slice_get m.windows e)) refl
  where
    by_result : (c : Result Window Refusal) → confirm_window upto (slice_get m.windows e) ≡ c
        → IsPast element number (step_confirm m e c).contents.windows
    by_result (Err refusal) is = past
    by_result (Ok new) is = past-with_window m.windows e (λ w. new)
        (λ w at. (confirm-base upto w new (ap (confirm_window upto) (sym at) ∙ is)).0) element number past

-- nothing is kept then
past-kept : (windows : List Window) (who : Waiter) → IsPast who.element who.number windows → kept_for windows who ≡ None
past-kept windows who past = ap (option_and_then (λ w. kept_under w who.number)) past.1
    ∙ kept_under-below past.0 who.number past.2

past-last_kept : (m : Contents) (commands : List Command) (who : Waiter) (before : Option Kept)
    → IsPast who.element who.number m.windows
    → last_kept m commands who before ≡ before
past-last_kept m [] who before past = ap (λ k. latest k before) (past-kept m.windows who past)
past-last_kept m (command ∷ commands) who before past =
    past-last_kept (step m command).contents commands who (latest (kept_for m.windows who) before)
    (past-step m command who.element who.number past)
    ∙ ap (λ k. latest k before) (past-kept m.windows who past)

get-set_same : (windows : List Window) (e : ℕ) (w new : Window) → slice_get windows e ≡ Some w
    → slice_get (set windows e new) e ≡ Some new
get-set_same [] e w new at = absurd (none-some w at)
get-set_same (v ∷ windows) zero w new at = refl
get-set_same (v ∷ windows) (suc e) w new at = get-set_same windows e w new at

-- one command leaves an answered entry, or drops it for good
answered-step : (m : Contents) (command : Command) (who : Waiter) (k : Kept) → WaitingAgrees m
    → kept_for m.windows who ≡ Some k → is_waiting k ≡ false
    → (kept_for (step m command).contents.windows who ≡ Some k)
    ⊎ IsPast who.element who.number (step m command).contents.windows
answered-step m command who k agrees is answered = ⊎_elim (by_command command) (λ h. inl (stays h))
    (step-keeps m command agrees who k is)
  where
    stays : {o : Option Kept} → StaysOrIsAnswered k o → o ≡ Some k
    stays (inl same) = same
    stays (inr now) = absurd (false_true (sym answered ∙ now.1))

    by_command : (command : Command) → drops command who ≡ true
        → (kept_for (step m command).contents.windows who ≡ Some k)
        ⊎ IsPast who.element who.number (step m command).contents.windows
    by_command (Asks r) e = absurd (false_true e)
    by_command (Confirm element upto) e = by_window (slice_get m.windows element) refl
      where
        parts : (who.element ≡ element) × (who.number < upto)
        parts = let both = and_both (who.element == element) (nat_lt who.number upto) e in
            (eq_by_test who.element element both.0, let t = both.1 in grind (arith, nat_tests))

        by_result : (w : Window) → slice_get m.windows element ≡ Some w → (c : Result Window Refusal)
            → confirm_window upto (Some w) ≡ c
            → (kept_for (step_confirm m element c).contents.windows who ≡ Some k)
            ⊎ IsPast who.element who.number (step_confirm m element c).contents.windows
        by_result w at (Err refusal) f = inl is
        by_result w at (Ok new) f =
            let rises = (confirm-base upto w new f).1 in let below = parts.1 in
            inr (
              new,
              ap (slice_get (set m.windows element new)) parts.0
                  ∙ get-set_same m.windows element w new at,
              omega arith,
            )

        by_window : (o : Option Window) → slice_get m.windows element ≡ o
            → (kept_for (step_confirm m element (confirm_window upto o)).contents.windows who ≡ Some k)
            ⊎ IsPast who.element who.number (step_confirm m element (confirm_window upto o)).contents.windows
        by_window None at = inl is
        by_window (Some w) at = by_result w at (confirm_window upto (Some w)) refl

answered-last_kept : (m : Contents) (commands : List Command) (who : Waiter) (k : Kept) (before : Option Kept)
    → WaitingAgrees m
    → kept_for m.windows who ≡ Some k → is_waiting k ≡ false
    → last_kept m commands who before ≡ Some k
answered-last_kept m [] who k before agrees is answered = ap (λ o. latest o before) is
answered-last_kept m (command ∷ commands) who k before agrees is answered = ⊎_elim
    (λ stays. answered-last_kept (step m command).contents commands who k (latest (kept_for m.windows who) before)
    (step-agrees m command agrees) stays answered)
    (λ past. past-last_kept (step m command).contents commands who (latest (kept_for m.windows who) before) past
    ∙ ap (λ o. latest o before) is)
    (answered-step m command who k agrees is answered)

-- from m on the last entry that is kept for a request is this one, whatever was kept before
abbrev pub Ends : Contents → List Command → Waiter → Entry → Type 0
Ends m commands who entry = (before : Option Kept)
    → option_map (λ kept. kept.entry) (last_kept m commands who before) ≡ Some entry

pub ends-answered : (m : Contents) (commands : List Command) (who : Waiter) (k : Kept) (reply : Reply)
    → WaitingAgrees m → kept_for m.windows who ≡ Some k
    → k.entry ≡ Answered reply
    → Ends m commands who (Answered reply)
ends-answered m commands who k reply agrees is entry before =
    ap (option_map (λ (kept : Kept). kept.entry))
    (answered-last_kept m commands who k before agrees is (ap is_waiting_entry entry)) ∙ ap Some entry

pub ends-now : (m : Contents) (who : Waiter) (k : Kept) → kept_for m.windows who ≡ Some k → Ends m [] who k.entry
ends-now m who k is before = ap (λ o. option_map (λ (kept : Kept). kept.entry) (latest o before)) is

pub ends-later : (m : Contents) (command : Command) (commands : List Command) (who : Waiter) (entry : Entry)
    → Ends (step m command).contents commands who entry → Ends m (command ∷ commands) who entry
ends-later m command commands who entry ends before = ends (latest (kept_for m.windows who) before)
