-- Requests, confirmations and questions, by the bounds of a window.
use Rattle.std.proofs.Common.{◌≡◌, ℕ, zero, suc, ◌+◌, ◌-◌, ◌<◌, ◌≤◌, max, Bool, true, false, cond, ◌&&◌, ◌||◌, ◌⊎◌}
use Rattle.std.proofs.Common.{List, [], ◌∷◌, length, take, drop, IsErr, nat_lt, ◌==◌, slice_get, Some, None, Ok, Err}
use Rattle.std.proofs.Common.{Option, Result, sym, refl, ap, ◌∙◌, subst, ⊎_elim, arith}
use Rattle.std.{proofs.lemmas.Bool.Decides.nat_tests, specs.List.list_any}
use Rattle.im_types.specs.Types.{Waiter, Kept, Request, Outcome, Asks, Confirm, Confirmed, Fresh, Refusal, Gap}
use Rattle.im_types.specs.Types.{Forgotten, WindowFull, NoElement, NotAnswered, WINDOW, LAST, Window, Contents}
use Rattle.im_types.specs.Types.{kept_under, kept_for, drops, next_number, judge_number, judge_window, judge}
use Rattle.im_types.specs.Types.{is_waiting, confirm_window, ask_number, ask_window, ask, bounds_of, bounds}
use Rattle.im_types.specs.Types.{step_request, step_confirm, step, is_fresh, is_accepted}
use Rattle.im_laws.proofs.AcceptLemmas.{accepted-fresh, confirm-confirms, Confirms}
use Rattle.im_laws.proofs.{BoundsLemmas.bounds-next, MemoryLemmas.bounds-window, RunAgrees.confirmed_stays}
use Rattle.im_laws.proofs.{RunAgrees.quiet_front, StepLemmas.judge-fresh, StepLemmas.slice_get-end}
use Rattle.im_laws.proofs.Tests.{eq_by_test, some_same, true_false, true_or_false}
use Rattle.im_laws.proofs.WindowLemmas.{kept_for-here, kept_for-set, kept_for-window, kept_under-below, kept_under-from}
use Rattle.im_laws.specs.{Entries.IsRefused, Windows.IsConfirmable, Windows.IsNextRequest}

bounds-none : (windows : List Window) (element : ℕ) → IsErr (bounds windows element) → slice_get windows element ≡ None
bounds-none windows element e = by_window (slice_get windows element) e
  where
    by_window : (o : Option Window) → IsErr (bounds_of o) → o ≡ None
    by_window None e = refl
    by_window (Some w) e = absurd (not_err e)
      where
        not_err : IsErr (bounds_of (Some w)) → ⊥
        not_err e = cc

-- where nothing is kept yet
judge-unkept : (windows : List Window) (r : Request) (w : Window) → slice_get windows r.element ≡ Some w
    → next_number w ≤ r.number
    → judge windows r ≡ cond (nat_lt (next_number w) r.number || nat_lt LAST r.number) (Err Gap)
    (cond (nat_lt (length w.kept) WINDOW) (Ok Fresh) (Err WindowFull))
judge-unkept windows r w at past =
    let test : nat_lt r.number w.base ≡ false = grind (arith, nat_tests) in
    ap (judge_window r) at
    ∙ ap (λ b. cond b (Err Forgotten) (judge_number w r (slice_get w.kept (r.number - w.base)))) test
    ∙ ap (judge_number w r) (slice_get-end w.kept (r.number - w.base) (omega arith))

judge-far : (windows : List Window) (r : Request) (w : Window) → slice_get windows r.element ≡ Some w
    → next_number w ≤ r.number
    → (next_number w < r.number) ⊎ (LAST < r.number)
    → judge windows r ≡ Err Gap
judge-far windows r w at past far =
    let test : (nat_lt (next_number w) r.number || nat_lt LAST r.number)
    ≡ true = ⊎_elim (λ (h : next_number w < r.number). either (grind (arith, nat_tests)))
    (λ (h : LAST < r.number). other (grind (arith, nat_tests))) far in
    judge-unkept windows r w at past
    ∙ ap (λ b. cond b (Err Gap) (cond (nat_lt (length w.kept) WINDOW) (Ok Fresh) (Err WindowFull))) test
  where
    either : nat_lt (next_number w) r.number ≡ true → (nat_lt (next_number w) r.number || nat_lt LAST r.number) ≡ true
    either e = ap (λ b. b || nat_lt LAST r.number) e

    or_true : (b : Bool) → (b || true) ≡ true
    or_true true = refl
    or_true false = refl

    other : nat_lt LAST r.number ≡ true → (nat_lt (next_number w) r.number || nat_lt LAST r.number) ≡ true
    other e = ap (λ b. nat_lt (next_number w) r.number || b) e ∙ or_true (nat_lt (next_number w) r.number)

judge-near : (windows : List Window) (r : Request) (w : Window) → slice_get windows r.element ≡ Some w
    → next_number w ≡ r.number → r.number ≤ LAST
    → judge windows r ≡ cond (nat_lt (length w.kept) WINDOW) (Ok Fresh) (Err WindowFull)
judge-near windows r w at next last =
    let near : nat_lt (next_number w) r.number ≡ false = grind (arith, nat_tests) in
    let to_last : nat_lt LAST r.number ≡ false = grind (arith, nat_tests) in
    judge-unkept windows r w at (omega arith)
    ∙ ap (λ b. cond (b || nat_lt LAST r.number) (Err Gap)
    (cond (nat_lt (length w.kept) WINDOW) (Ok Fresh) (Err WindowFull))) near
    ∙ ap (λ b. cond b (Err Gap) (cond (nat_lt (length w.kept) WINDOW) (Ok Fresh) (Err WindowFull))) to_last

-- requests
pub step-no_element : (m : Contents) (r : Request) → IsErr (bounds m.windows r.element) → IsRefused m r NoElement
step-no_element m r e = ap (λ o. step_request m r (judge_window r o)) (bounds-none m.windows r.element e)

pub step-gap : (m : Contents) (r : Request) (base next : ℕ) → bounds m.windows r.element ≡ Ok (base, next)
    → next ≤ r.number
    → (next < r.number) ⊎ (LAST < r.number) → IsRefused m r Gap
step-gap m r base next are past far =
    let w = bounds-window m.windows r.element base next are in
    let is = w.next_is in
    ap (step_request m r)
    (judge-far m.windows r w.window w.there (omega arith)
    (subst (λ n. (n < r.number) ⊎ (LAST < r.number)) (sym is) far))

pub step-full : (m : Contents) (r : Request) (base : ℕ) → bounds m.windows r.element ≡ Ok (base, r.number)
    → r.number ≤ LAST
    → base + WINDOW ≤ r.number → IsRefused m r WindowFull
step-full m r base are last full =
    let w = bounds-window m.windows r.element base r.number are in
    let base_is = w.base_is in
    let next_is = w.next_is in
    let none : nat_lt (length w.window.kept) WINDOW ≡ false = grind (arith, nat_tests) in
    ap (step_request m r)
    (judge-near m.windows r w.window w.there next_is last ∙ ap (λ b. cond b (Ok Fresh) (Err WindowFull)) none)

pub next-accepted : (m : Contents) (r : Request) → IsNextRequest m.windows r → is_accepted m (Asks r) ≡ true
next-accepted m r n =
    let w = bounds-window m.windows r.element n.base r.number n.are in
    let base_is = w.base_is in
    let next_is = w.next_is in
    let room = n.room in
    let some : nat_lt (length w.window.kept) WINDOW ≡ true = grind (arith, nat_tests) in
    ap is_fresh (judge-near m.windows r w.window w.there next_is n.to_last
    ∙ ap (λ b. cond b (Ok Fresh) (Err WindowFull)) some)

pub accepted-next : (m : Contents) (r : Request) → is_accepted m (Asks r) ≡ true → IsNextRequest m.windows r
accepted-next m r e =
    let n = judge-fresh m.windows r (accepted-fresh m r e) in
    let next = n.next in
    let room = n.room in
    record { base = n.window.base; are = bounds-next m r n; room = omega arith; to_last = n.to_last }

-- questions
slice_get-some : (kept : List Kept) (i : ℕ) → i < length kept → (k : Kept) × (slice_get kept i ≡ Some k)
slice_get-some [] i h = absurd (omega arith)
slice_get-some (k ∷ kept) zero h = (k, refl)
slice_get-some (k ∷ kept) (suc i) h = slice_get-some kept i (omega arith)

pub bounds-kept : (windows : List Window) (who : Waiter) (base next : ℕ) → bounds windows who.element
    ≡ Ok (base, next) → base ≤ who.number
    → who.number < next
    → (k : Kept) × (kept_for windows who ≡ Some k)
bounds-kept windows who base next are from below =
    let w = bounds-window windows who.element base next are in
    let base_is = w.base_is in
    let next_is = w.next_is in
    let found = slice_get-some w.window.kept (who.number - w.window.base) (omega arith) in (
      found.0,
      kept_for-here windows who.element w.window who w.there refl
          ∙ kept_under-from w.window who.number (omega arith) ∙ found.1,
    )

pub ask-gap : (windows : List Window) (who : Waiter) (base next : ℕ) → bounds windows who.element ≡ Ok (base, next)
    → next ≤ who.number
    → ask windows who ≡ Err Gap
ask-gap windows who base next are past =
    let w = bounds-window windows who.element base next are in
    let next_is = w.next_is in
    let test : nat_lt who.number w.window.base ≡ false = grind (arith, nat_tests) in
    ap (ask_window who.number) w.there
    ∙ ap (λ b. cond b (Err Forgotten) (ask_number (slice_get w.window.kept (who.number - w.window.base)))) test
    ∙ ap ask_number (slice_get-end w.window.kept (who.number - w.window.base) (omega arith))

pub ask-no_element : (windows : List Window) (who : Waiter) → IsErr (bounds windows who.element) → ask windows who
    ≡ Err NoElement
ask-no_element windows who e = ap (ask_window who.number) (bounds-none windows who.element e)

-- confirmations
none_waits : (kept : List Kept) (n : ℕ)
    → ((i : ℕ) (k : Kept) → i < n → slice_get kept i ≡ Some k → is_waiting k ≡ false)
    → list_any is_waiting (take n kept) ≡ false
none_waits [] zero none = refl
none_waits [] (suc n) none = refl
none_waits (k ∷ kept) zero none = refl
none_waits (k ∷ kept) (suc n) none =
    ap (λ b. b || list_any is_waiting (take n kept)) (none 0 k (omega arith) refl)
    ∙ none_waits kept n (λ i k h e. none (suc i) k (omega arith) e)

pub confirmable-confirms : (windows : List Window) (element upto : ℕ) → IsConfirmable windows element upto
    → (now : Window) × (confirm_window upto (slice_get windows element) ≡ Ok now)
confirmable-confirms windows element upto c =
    let w = bounds-window windows element c.base c.next c.are in
    let next_is = w.next_is in
    let reached = c.reached in
    let near : nat_lt (next_number w.window) upto ≡ false = grind (arith, nat_tests) in
    let quiet : list_any is_waiting (take (upto - w.window.base) w.window.kept)
    ≡ false = none_waits w.window.kept (upto - w.window.base) (λ i k h e.
    c.answered (w.window.base + i) k (omega arith)
    (kept_for-here windows element w.window (record { element = element; number = w.window.base + i }) w.there refl
    ∙ kept_under-from w.window (w.window.base + i) (omega arith) ∙ ap (slice_get w.window.kept) (omega arith) ∙ e)) in
    let now : Window = record { base = max w.window.base upto; kept = drop (upto - w.window.base) w.window.kept } in (
      now,
      ap (confirm_window upto) w.there
          ∙ ap (λ b. cond b (Err Gap)
          (cond (list_any is_waiting (take (upto - w.window.base) w.window.kept)) (Err NotAnswered) (Ok now))) near
          ∙ ap (λ b. cond b (Err NotAnswered) (Ok now)) quiet,
    )

pub confirms-confirmable : (m : Contents) (element upto : ℕ) (now : Window) → Confirms m element upto now
    → IsConfirmable m.windows element upto
confirms-confirmable m element upto now c = record {
  base = c.window.base;
  next = next_number c.window;
  are = ap bounds_of c.there;
  reached = c.is.reached;
  answered = λ number k below is. answered number k below is;
}
  where
    answered : (number : ℕ) (k : Kept) → number < upto
        → kept_for m.windows (record { element = element; number = number }) ≡ Some k
        → is_waiting k ≡ false
    answered number k below is =
        let w = kept_for-window m.windows (record { element = element; number = number }) k is in
        let same : w.0 ≡ c.window = some_same w.0 c.window (sym w.1 ∙ c.there) in
        let base : w.0.base ≡ c.window.base = ap (λ (w : Window). w.base) same in
        let low : w.0.base ≤ number = w.2 in
        quiet_front c.window.kept (upto - c.window.base) (number - c.window.base) c.is.quiet (omega arith) k
        (sym (kept_under-from c.window number (omega arith))
        ∙ sym (kept_for-here m.windows element c.window
        (record { element = element; number = number }) c.there refl) ∙ is)

confirmed-ok : (m : Contents) (element : ℕ) (c : Result Window Refusal) → (step_confirm m element c).answer
    ≡ Ok Confirmed
    → (now : Window) × (c ≡ Ok now)
confirmed-ok m element (Ok now) e = (now, refl)
confirmed-ok m element (Err refusal) e = absurd (not_ok e)
  where
    not_ok : ◌≡◌ {A = Result Outcome Refusal} (Err refusal) (Ok Confirmed) → ⊥
    not_ok e = cc

pub step-confirmed : (m : Contents) (element upto : ℕ) → IsConfirmable m.windows element upto
    → (step m (Confirm element upto)).answer ≡ Ok Confirmed
step-confirmed m element upto c = ap (λ k. (step_confirm m element k).answer)
    (confirmable-confirms m.windows element upto c).1

pub confirmed-confirmable : (m : Contents) (element upto : ℕ) → (step m (Confirm element upto)).answer ≡ Ok Confirmed
    → IsConfirmable m.windows element upto
confirmed-confirmable m element upto e =
    let now = confirmed-ok m element (confirm_window upto (slice_get m.windows element)) e in
    confirms-confirmable m element upto now.0 (confirm-confirms m element upto now.0 now.1)

-- what is kept after a confirmation
pub kept_for-confirmed : (m : Contents) (element upto : ℕ) (who : Waiter) → (step m (Confirm element upto)).answer
    ≡ Ok Confirmed
    → kept_for (step m (Confirm element upto)).contents.windows who
    ≡ cond (drops (Confirm element upto) who) None (kept_for m.windows who)
kept_for-confirmed m element upto who e =
    let ok = confirmed-ok m element (confirm_window upto (slice_get m.windows element)) e in
    let c = confirm-confirms m element upto ok.0 ok.1 in
    ap (λ k. kept_for (step_confirm m element k).contents.windows who) ok.1
    ∙ kept_for-set m.windows element c.window ok.0 who c.there
    ∙ by_tests ok.0 c (who.element == element) refl (nat_lt who.number upto) refl
  where
    by_tests : (now : Window) → Confirms m element upto now → (here : Bool) → (who.element == element) ≡ here
        → (below : Bool)
        → nat_lt who.number upto ≡ below
        → cond here (kept_under now who.number) (kept_for m.windows who)
        ≡ cond (here && below) None (kept_for m.windows who)
    by_tests now c true h true b =
        let low : who.number < upto = grind (arith, nat_tests) in
        let base : now.base ≡ max c.window.base upto = ap (λ (w : Window). w.base) c.is.is in
        kept_under-below now who.number (omega arith)
    by_tests now c true h false b =
        let from : upto ≤ who.number = grind (arith, nat_tests) in
        ap (λ (w : Window). kept_under w who.number) c.is.is ∙ confirmed_stays c.window upto who.number from
        ∙ sym (kept_for-here m.windows element c.window who c.there (eq_by_test who.element element h))
    by_tests now c false h below b = refl

-- confirmations that are refused
pub confirm-no_element : (m : Contents) (element upto : ℕ) → IsErr (bounds m.windows element)
    → (step m (Confirm element upto)).answer ≡ Err NoElement
confirm-no_element m element upto e = ap (λ o. (step_confirm m element (confirm_window upto o)).answer)
    (bounds-none m.windows element e)

pub confirm-gap : (m : Contents) (element upto base next : ℕ) → bounds m.windows element ≡ Ok (base, next) → next < upto
    → (step m (Confirm element upto)).answer ≡ Err Gap
confirm-gap m element upto base next are far =
    let w = bounds-window m.windows element base next are in
    let next_is = w.next_is in
    let test : nat_lt (next_number w.window) upto ≡ true = grind (arith, nat_tests) in
    let now : Window = record { base = max w.window.base upto; kept = drop (upto - w.window.base) w.window.kept } in
    ap (λ o. (step_confirm m element (confirm_window upto o)).answer) w.there
    ∙ ap (λ b. (step_confirm m element
    (cond b (Err Gap)
    (cond (list_any is_waiting (take (upto - w.window.base) w.window.kept)) (Err NotAnswered)
    (Ok now)))).answer) test

pub confirm-waits : (m : Contents) (element upto base next number : ℕ) (k : Kept) → bounds m.windows element
    ≡ Ok (base, next) → upto ≤ next
    → number < upto
    → kept_for m.windows (record { element = element; number = number }) ≡ Some k → is_waiting k ≡ true
    → (step m (Confirm element upto)).answer ≡ Err NotAnswered
confirm-waits m element upto base next number k are reached below is waits =
    let w = bounds-window m.windows element base next are in
    let next_is = w.next_is in
    let test : nat_lt (next_number w.window) upto ≡ false = grind (arith, nat_tests) in
    let now : Window = record { base = max w.window.base upto; kept = drop (upto - w.window.base) w.window.kept } in
    let waiting = list_any is_waiting (take (upto - w.window.base) w.window.kept) in
    ap (λ o. (step_confirm m element (confirm_window upto o)).answer) w.there
    ∙ ap (λ b. (step_confirm m element (cond b (Err Gap) (cond waiting (Err NotAnswered) (Ok now)))).answer) test
    ∙ ap (λ b. (step_confirm m element (cond b (Err NotAnswered) (Ok now))).answer)
    (⊎_elim (λ e. e) (λ quiet. absurd (not_quiet w.window w.there quiet)) (true_or_false waiting))
  where
    not_quiet : (w : Window) → slice_get m.windows element ≡ Some w
        → list_any is_waiting (take (upto - w.base) w.kept) ≡ false → ⊥
    not_quiet w at quiet =
        let there = kept_for-window m.windows (record { element = element; number = number }) k is in
        let same : there.0 ≡ w = some_same there.0 w (sym there.1 ∙ at) in
        let base_is : there.0.base ≡ w.base = ap (λ (w : Window). w.base) same in
        let from : there.0.base ≤ number = there.2 in
        true_false (sym waits ∙ quiet_front w.kept (upto - w.base) (number - w.base) quiet (omega arith) k
        (sym (kept_under-from w number (omega arith))
        ∙ sym (kept_for-here m.windows element w (record { element = element; number = number }) at refl) ∙ is))

-- a confirmation leaves the cells
pub confirm-cells : (m : Contents) (element upto : ℕ) → (step m (Confirm element upto)).contents.cells ≡ m.cells
confirm-cells m element upto = by_result (confirm_window upto (slice_get m.windows element))
  where
    by_result : (c : Result Window Refusal) → (step_confirm m element c).contents.cells ≡ m.cells
    by_result (Err refusal) = refl
    by_result (Ok window) = refl
