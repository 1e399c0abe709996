-- A kept entry stays, save for its answer, until it is confirmed; and a request that is sent again is told it.
use Rattle.std.proofs.Common.{◌≡◌, ℕ, ◌-◌, ◌<◌, ◌≤◌, max, Bool, true, false, cond, ◌||◌, ◌⊎◌, List, [], ◌∷◌, length}
use Rattle.std.proofs.Common.{set, nat_lt, ◌==◌, slice_get, Some, None, Ok, Err, Option, Result, sym, refl, ap, ◌∙◌}
use Rattle.std.proofs.Common.{subst, inl, inr, ⊎_elim, arith}
use Rattle.std.{proofs.lemmas.Bool.Decides.nat_tests, specs.List.list_any}
use Rattle.im_types.specs.Types.{Entry, Reply, Waiter, Kept, Answered, Request, Command, Outcome, Judged, Asks, Confirm}
use Rattle.im_types.specs.Types.{Tells, Fresh, Repeat, Refusal, Gap, Forgotten, WindowFull, Mismatch, WINDOW, LAST}
use Rattle.im_types.specs.Types.{Window, Contents, kept_for, WaitingAgrees, StaysOrIsAnswered, drops, act, next_number}
use Rattle.im_types.specs.Types.{same_op, judge_number, judge_window, judge, is_waiting, confirm_window, ask_number}
use Rattle.im_types.specs.Types.{ask_window, ask, asker, step_request, step_confirm, step, is_fresh, is_accepted, after}
use Rattle.im_types.specs.Types.{accepted}
use Rattle.im_laws.proofs.{AcceptLemmas.confirm-confirms, ForgetLemmas.after-forgotten, OpLemmas.same_op-equal}
use Rattle.im_laws.proofs.{OpLemmas.same_op-self, RunAgrees.step-agrees, RunAgrees.step-keeps, RunLemmas.after-accepted}
use Rattle.im_laws.proofs.{StepAgrees.act-agrees, StepLemmas.judge-fresh, WaiterLemmas.waiting_only}
use Rattle.im_laws.proofs.Tests.{and_both, eq_by_test, or_left, or_right, true_false, true_or_false}
use Rattle.im_laws.proofs.WindowLemmas.{kept_for-here, kept_for-window, kept_under-from, slice_get-set}
use Rattle.im_laws.specs.Entries.{IsRefused, IsTold, IsToldAgain, IsToldAgainOrForgotten, LastsOrIsForgotten}
use Rattle.im_laws.specs.Windows.{IsForgotten}

-- what a confirmation drops is forgotten
confirm-forgets : (m : Contents) (element upto : ℕ) (who : Waiter) (now : Window)
    → confirm_window upto (slice_get m.windows element) ≡ Ok now
    → drops (Confirm element upto) who ≡ true → IsForgotten (set m.windows element now) who
confirm-forgets m element upto who now e dropped =
    let c = confirm-confirms m element upto now e in
    let tests = and_both (who.element == element) (nat_lt who.number upto) dropped in
    let here : who.element ≡ element = eq_by_test who.element element tests.0 in
    let below_upto : nat_lt who.number upto ≡ true = tests.1 in
    let below : who.number < upto = grind (arith, nat_tests) in
    let base : now.base ≡ max c.window.base upto = ap (λ (w : Window). w.base) c.is.is in
    record {
      window = now;
      there = slice_get-set m.windows element who.element c.window now c.there
          ∙ ap (λ b. cond b (Some now) (slice_get m.windows who.element)) tests.0;
      below = omega arith;
    }

pub step-lasts : (m : Contents) (command : Command) → WaitingAgrees m → (who : Waiter) (k : Kept)
    → kept_for m.windows who ≡ Some k
    → LastsOrIsForgotten (step m command).contents who k
step-lasts m (Asks r) agrees who k is = ⊎_elim
    (λ e. absurd (true_false (sym e)))
    inr
    (step-keeps m (Asks r) agrees who k is)
step-lasts m (Confirm element upto) agrees who k is = by_result
    (confirm_window upto (slice_get m.windows element)) refl (step-keeps m (Confirm element upto) agrees who k is)
  where
    by_result : (c : Result Window Refusal) → confirm_window upto (slice_get m.windows element) ≡ c
        → (drops (Confirm element upto) who ≡ true)
        ⊎ StaysOrIsAnswered k (kept_for (step_confirm m element c).contents.windows who)
        → LastsOrIsForgotten (step_confirm m element c).contents who k
    by_result (Err refusal) e kept = inr (inl is)
    by_result (Ok now) e (inl dropped) = inl (confirm-forgets m element upto who now e dropped)
    by_result (Ok now) e (inr stays) = inr stays

-- an answered entry stays as it is
answered_stays : (k : Kept) (reply : Reply) (o : Option Kept) → is_waiting k ≡ true
    → StaysOrIsAnswered (record { op = k.op; entry = Answered reply }) o → StaysOrIsAnswered k o
answered_stays k reply o waits (inl same) = inr (reply, waits, same)
answered_stays k reply o waits (inr h) = absurd (true_false (sym h.1))

-- until it is confirmed
pub after-lasts : (m : Contents) (commands : List Command) → WaitingAgrees m → (who : Waiter) (k : Kept)
    → kept_for m.windows who ≡ Some k
    → LastsOrIsForgotten (after m commands) who k
after-lasts m [] agrees who k is = inr (inl is)
after-lasts m (command ∷ commands) agrees who k is =
    by_step (step-lasts m command agrees who k is)
    (λ j at. after-lasts (step m command).contents commands (step-agrees m command agrees) who j at)
  where
    by_step : LastsOrIsForgotten (step m command).contents who k
        → ((j : Kept) → kept_for (step m command).contents.windows who ≡ Some j
        → LastsOrIsForgotten (after (step m command).contents commands) who j)
        → LastsOrIsForgotten (after (step m command).contents commands) who k
    by_step (inl forgotten) later = inl (after-forgotten (step m command).contents commands who forgotten)
    by_step (inr (inl same)) later = later k same
    by_step (inr (inr h)) later = ⊎_elim inl
        (λ stays. inr (answered_stays k h.0
        (kept_for (after (step m command).contents commands).windows who) h.1 stays))
        (later (record { op = k.op; entry = Answered h.0 }) h.2)

none-drops : (m : Contents) (commands : List Command) → WaitingAgrees m → (who : Waiter) (k : Kept)
    → kept_for m.windows who ≡ Some k
    → list_any (λ command. drops command who) commands ≡ false
    → StaysOrIsAnswered k (kept_for (after m commands).windows who)
none-drops m [] agrees who k is none = inl is
none-drops m (command ∷ commands) agrees who k is none =
    by_step (step-keeps m command agrees who k is)
    (λ j at. none-drops (step m command).contents commands (step-agrees m command agrees) who j at
    (or_right (drops command who) (list_any (λ command. drops command who) commands) none))
  where
    by_step : (drops command who ≡ true) ⊎ StaysOrIsAnswered k (kept_for (step m command).contents.windows who)
        → ((j : Kept) → kept_for (step m command).contents.windows who ≡ Some j
        → StaysOrIsAnswered j (kept_for (after (step m command).contents commands).windows who))
        → StaysOrIsAnswered k (kept_for (after (step m command).contents commands).windows who)
    by_step (inl dropped) later = absurd
        (true_false (sym dropped ∙ or_left (drops command who) (list_any (λ command. drops command who) commands) none))
    by_step (inr (inl same)) later = later k same
    by_step (inr (inr h)) later = answered_stays k h.0
        (kept_for (after (step m command).contents commands).windows who) h.1
        (later (record { op = k.op; entry = Answered h.0 }) h.2)

-- where no accepted command drops it
pub after-keeps : (m : Contents) (commands : List Command) → WaitingAgrees m → (who : Waiter) (k : Kept)
    → kept_for m.windows who ≡ Some k
    → list_any (λ command. drops command who) (accepted m commands) ≡ false
    → StaysOrIsAnswered k (kept_for (after m commands).windows who)
after-keeps m commands agrees who k is none =
    subst (λ m. StaysOrIsAnswered k (kept_for m.windows who)) (after-accepted m commands)
    (none-drops m (accepted m commands) agrees who k is none)

-- how a kept number is judged
pub judge-kept : (windows : List Window) (r : Request) (k : Kept) → kept_for windows (asker r) ≡ Some k
    → judge windows r ≡ cond (same_op k.op r.op) (Ok (Repeat k.entry)) (Err Mismatch)
judge-kept windows r k is =
    let w = kept_for-window windows (asker r) k is in
    let from : w.0.base ≤ r.number = w.2 in
    let test : nat_lt r.number w.0.base ≡ false = grind (arith, nat_tests) in
    let kept : slice_get w.0.kept (r.number - w.0.base) ≡ Some k = sym (kept_under-from w.0 r.number from)
    ∙ sym (kept_for-here windows r.element w.0 (asker r) w.1 refl) ∙ is in
    ap (judge_window r) w.1
    ∙ ap (λ b. cond b (Err Forgotten) (judge_number w.0 r (slice_get w.0.kept (r.number - w.0.base)))) test
    ∙ ap (judge_number w.0 r) kept

pub step-repeat : (m : Contents) (r : Request) (k : Kept) → kept_for m.windows (asker r) ≡ Some k → k.op ≡ r.op
    → IsTold m r k.entry
step-repeat m r k is same =
    let test : same_op k.op r.op ≡ true = ap (same_op k.op) (sym same) ∙ same_op-self k.op in
    ap (step_request m r) (judge-kept m.windows r k is ∙ ap (λ b. cond b (Ok (Repeat k.entry)) (Err Mismatch)) test)

pub step-mismatch : (m : Contents) (r : Request) (k : Kept) → kept_for m.windows (asker r) ≡ Some k
    → (k.op ≡ r.op → ⊥) → IsRefused m r Mismatch
step-mismatch m r k is other = ⊎_elim
    (λ e. absurd (other (same_op-equal k.op r.op e)))
    (λ test. ap (step_request m r)
    (judge-kept m.windows r k is ∙ ap (λ b. cond b (Ok (Repeat k.entry)) (Err Mismatch)) test))
    (true_or_false (same_op k.op r.op))

pub accepted-kept : (m : Contents) (r : Request) (k : Kept) → kept_for m.windows (asker r) ≡ Some k
    → is_accepted m (Asks r) ≡ false
accepted-kept m r k is = ap is_fresh (judge-kept m.windows r k is) ∙ by_test (same_op k.op r.op)
  where
    by_test : (b : Bool) → is_fresh (cond b (Ok (Repeat k.entry)) (Err Mismatch)) ≡ false
    by_test true = refl
    by_test false = refl

-- what is kept for a repeat
pub judge-repeat : (windows : List Window) (r : Request) (entry : Entry) → judge windows r ≡ Ok (Repeat entry)
    → kept_for windows (asker r) ≡ Some (record { op = r.op; entry = entry })
judge-repeat windows r entry e = by_window (slice_get windows r.element) refl e
  where
    told : Entry → Kept
    told entry = record { op = r.op; entry = entry }

    by_op : (k : Kept) (b : Bool) → same_op k.op r.op ≡ b → cond b (Ok (Repeat k.entry)) (Err Mismatch)
        ≡ Ok (Repeat entry)
        → Some k ≡ Some (record { op = r.op; entry = entry })
    by_op k true t e =
        let same : k.entry ≡ entry = cc in
        let op : k.op ≡ r.op = same_op-equal k.op r.op t in
        ap Some (λ i. record { op = op i; entry = same i })
    by_op k false t e = absurd (cc)

    not_repeat : (far last room : Bool) → cond (far || last) (Err Gap) (cond room (Ok Fresh) (Err WindowFull))
        ≡ Ok (Repeat entry) → ⊥
    not_repeat true last room e = cc
    not_repeat false true room e = cc
    not_repeat false false true e = cc
    not_repeat false false false e = cc

    by_kept : (w : Window) (o : Option Kept) → judge_number w r o ≡ Ok (Repeat entry) → o
        ≡ Some (record { op = r.op; entry = entry })
    by_kept w None e = absurd
        (not_repeat (nat_lt (next_number w) r.number) (nat_lt LAST r.number) (nat_lt (length w.kept) WINDOW) e)
    by_kept w (Some k) e = by_op k (same_op k.op r.op) refl e

    by_test : (w : Window) → slice_get windows r.element ≡ Some w → (b : Bool) → nat_lt r.number w.base ≡ b
        → cond b (Err Forgotten) (judge_number w r (slice_get w.kept (r.number - w.base))) ≡ Ok (Repeat entry)
        → kept_for windows (asker r) ≡ Some (record { op = r.op; entry = entry })
    by_test w at true t e = absurd (cc)
    by_test w at false t e =
        let from : w.base ≤ r.number = grind (arith, nat_tests) in
        kept_for-here windows r.element w (asker r) at refl ∙ kept_under-from w r.number from
        ∙ by_kept w (slice_get w.kept (r.number - w.base)) e

    by_window : (o : Option Window) → slice_get windows r.element ≡ o → judge_window r o ≡ Ok (Repeat entry)
        → kept_for windows (asker r) ≡ Some (record { op = r.op; entry = entry })
    by_window None at e = absurd (cc)
    by_window (Some w) at e = by_test w at (nat_lt r.number w.base) refl e

-- what a request was told is what is kept for it then
pub told-kept : (m : Contents) (r : Request) (entry : Entry) → WaitingAgrees m → (step m (Asks r)).answer
    ≡ Ok (Tells entry)
    → kept_for (step m (Asks r)).contents.windows (asker r) ≡ Some (record { op = r.op; entry = entry })
told-kept m r entry agrees e = by_judged (judge m.windows r) refl e
  where
    same_entry : (a b : Entry) → ◌≡◌ {A = Result Outcome Refusal} (Ok (Tells a)) (Ok (Tells b)) → a ≡ b
    same_entry a b e = let outcome : Tells a ≡ Tells b = cc in cc

    by_judged : (j : Result Judged Refusal) → judge m.windows r ≡ j → (step_request m r j).answer ≡ Ok (Tells entry)
        → kept_for (step_request m r j).contents.windows (asker r) ≡ Some (record { op = r.op; entry = entry })
    by_judged (Err refusal) j e = absurd (cc)
    by_judged (Ok (Repeat told)) j e = judge-repeat m.windows r entry
        (j ∙ ap (λ entry. Ok (Repeat entry)) (same_entry told entry e))
    by_judged (Ok Fresh) j e =
        (act-agrees m.windows m.cells r (judge-fresh m.windows r j) agrees r.op refl).own
        ∙ ap (λ entry. Some (record { op = r.op; entry = entry }))
        (same_entry (act m.cells (asker r) r.op).entry entry e)

-- who asks is told what is kept
pub ask-kept : (windows : List Window) (who : Waiter) (k : Kept) → kept_for windows who ≡ Some k → ask windows who
    ≡ Ok k.entry
ask-kept windows who k is =
    let w = kept_for-window windows who k is in
    let from : w.0.base ≤ who.number = w.2 in
    let test : nat_lt who.number w.0.base ≡ false = grind (arith, nat_tests) in
    let kept : slice_get w.0.kept (who.number - w.0.base) ≡ Some k = sym (kept_under-from w.0 who.number from)
    ∙ sym (kept_for-here windows who.element w.0 who w.1 refl) ∙ is in
    ap (ask_window who.number) w.1
    ∙ ap (λ b. cond b (Err Forgotten) (ask_number (slice_get w.0.kept (who.number - w.0.base)))) test
    ∙ ap ask_number kept

pub read_back : (m : Contents) (r : Request) (entry : Entry) → WaitingAgrees m → (step m (Asks r)).answer
    ≡ Ok (Tells entry)
    → ask (step m (Asks r)).contents.windows (asker r) ≡ Ok entry
read_back m r entry agrees e = ask-kept (step m (Asks r)).contents.windows (asker r)
    (record { op = r.op; entry = entry }) (told-kept m r entry agrees e)

-- sent again, a request is told again
stays-told_again : (m : Contents) (r : Request) (before : Entry)
    → StaysOrIsAnswered (record { op = r.op; entry = before }) (kept_for m.windows (asker r)) → IsToldAgain m r before
stays-told_again m r before (inl same) = record { entry = before; since = inl refl; told = step-repeat m r _ same refl }
stays-told_again m r before
    (inr h) = record {
      entry = Answered h.0;
      since = inr
          (h.0, waiting_only before h.1, refl);
      told = step-repeat m r _ h.2 refl;
    }

pub kept-told_again : (m : Contents) (r : Request) (before : Entry) (commands : List Command) → WaitingAgrees m
    → kept_for m.windows (asker r) ≡ Some (record { op = r.op; entry = before })
    → IsToldAgainOrForgotten (after m commands) r before
kept-told_again m r before commands agrees is =
    ⊎_elim inl (λ stays. inr (stays-told_again (after m commands) r before stays))
    (after-lasts m commands agrees (asker r) (record { op = r.op; entry = before }) is)

pub told-told_again : (m : Contents) (r : Request) (before : Entry) (commands : List Command) → WaitingAgrees m
    → (step m (Asks r)).answer ≡ Ok (Tells before)
    → IsToldAgainOrForgotten (after (step m (Asks r)).contents commands) r before
told-told_again m r before commands agrees e = kept-told_again (step m (Asks r)).contents r before commands
    (step-agrees m (Asks r) agrees) (told-kept m r before agrees e)

-- an answered entry never changes
pub answered-lasts : (m : Contents) (commands : List Command) → WaitingAgrees m → (who : Waiter) (k : Kept)
    → kept_for m.windows who ≡ Some k → is_waiting k ≡ false
    → IsForgotten (after m commands).windows who ⊎ (kept_for (after m commands).windows who ≡ Some k)
answered-lasts m commands agrees who k is answered = ⊎_elim inl
    (λ stays. inr (⊎_elim (λ same. same) (λ h. absurd (true_false (sym h.1 ∙ answered))) stays))
    (after-lasts m commands agrees who k is)
