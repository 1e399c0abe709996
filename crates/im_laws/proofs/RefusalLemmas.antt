-- With which refusals a command is met.
use Rattle.std.proofs.Common.{◌≡◌, ℕ, ◌-◌, ◌≤◌, max, Bool, true, false, cond, ◌||◌, List, length, take, drop, nat_lt}
use Rattle.std.proofs.Common.{slice_get, Some, None, Ok, Err, Option, Result, subst, arith}
use Rattle.std.specs.List.{list_any}
use Rattle.im_types.specs.Types.{Entry, Waiter, Kept, Request, Command, Outcome, Judged, Asks, Confirm, Fresh, Repeat}
use Rattle.im_types.specs.Types.{Refusal, Gap, Forgotten, WindowFull, Mismatch, NotAnswered, number_of, WINDOW, LAST}
use Rattle.im_types.specs.Types.{Window, Contents, next_number, same_op, judge_number, judge_window, judge, is_waiting}
use Rattle.im_types.specs.Types.{confirm_window, ask_number, ask_window, ask, step_request, step_confirm, step}

-- a refusal, if it is one, is one of the first six
abbrev RefusesFew : {X : Type 0} → Result X Refusal → Type 0
RefusesFew (Ok x) = Unit {0}
RefusesFew (Err refusal) = number_of refusal ≤ 6

judge_number-few : (w : Window) (r : Request) (o : Option Kept) → RefusesFew (judge_number w r o)
judge_number-few w r (Some kept) = by_test (same_op kept.op r.op)
  where
    by_test : (b : Bool) → RefusesFew {X = Judged} (cond b (Ok (Repeat kept.entry)) (Err Mismatch))
    by_test true = tt
    by_test false = let h : 4 ≤ 6 = omega arith in h
judge_number-few w r None = by_tests (nat_lt (next_number w) r.number || nat_lt LAST r.number)
    (nat_lt (length w.kept) WINDOW)
  where
    by_tests : (far room : Bool) → RefusesFew {X = Judged} (cond far (Err Gap) (cond room (Ok Fresh) (Err WindowFull)))
    by_tests true room = let h : 1 ≤ 6 = omega arith in h
    by_tests false true = tt
    by_tests false false = let h : 3 ≤ 6 = omega arith in h

judge-few : (r : Request) (o : Option Window) → RefusesFew (judge_window r o)
judge-few r None = let h : 5 ≤ 6 = omega arith in h
judge-few r (Some w) = by_test (nat_lt r.number w.base)
  where
    by_test : (b : Bool) → RefusesFew {X = Judged}
        (cond b (Err Forgotten) (judge_number w r (slice_get w.kept (r.number - w.base))))
    by_test true = let h : 2 ≤ 6 = omega arith in h
    by_test false = judge_number-few w r (slice_get w.kept (r.number - w.base))

confirm-few : (upto : ℕ) (o : Option Window) → RefusesFew (confirm_window upto o)
confirm-few upto None = let h : 5 ≤ 6 = omega arith in h
confirm-few upto (Some w) = by_tests (nat_lt (next_number w) upto) (list_any is_waiting (take (upto - w.base) w.kept))
  where
    by_tests : (far waits : Bool)
        → RefusesFew {X = Window}
        (cond far (Err Gap)
        (cond waits (Err NotAnswered) (Ok (record { base = max w.base upto; kept = drop (upto - w.base) w.kept }))))
    by_tests true waits = let h : 1 ≤ 6 = omega arith in h
    by_tests false true = let h : 6 ≤ 6 = omega arith in h
    by_tests false false = tt

step-few : (m : Contents) (command : Command) → RefusesFew (step m command).answer
step-few m (Asks r) = by_judged (judge m.windows r) (judge-few r (slice_get m.windows r.element))
  where
    by_judged : (j : Result Judged Refusal) → RefusesFew j → RefusesFew (step_request m r j).answer
    by_judged (Err refusal) h = h
    by_judged (Ok (Repeat entry)) h = tt
    by_judged (Ok Fresh) h = tt
step-few m (Confirm element upto) = by_result (confirm_window upto (slice_get m.windows element))
    (confirm-few upto (slice_get m.windows element))
  where
    by_result : (c : Result Window Refusal) → RefusesFew c → RefusesFew (step_confirm m element c).answer
    by_result (Err refusal) h = h
    by_result (Ok window) h = tt

ask-few : (number : ℕ) (o : Option Window) → RefusesFew (ask_window number o)
ask-few number None = let h : 5 ≤ 6 = omega arith in h
ask-few number (Some w) = by_test (nat_lt number w.base) (slice_get w.kept (number - w.base))
  where
    by_test : (b : Bool) (o : Option Kept) → RefusesFew {X = Entry} (cond b (Err Forgotten) (ask_number o))
    by_test true o = let h : 2 ≤ 6 = omega arith in h
    by_test false None = let h : 1 ≤ 6 = omega arith in h
    by_test false (Some kept) = tt

err-few : (X : Type 0) (answer : Result X Refusal) (refusal : Refusal) → RefusesFew answer → answer ≡ Err refusal
    → number_of refusal ≤ 6
err-few X (Ok x) refusal few e = absurd (differ e)
  where
    differ : ◌≡◌ {A = Result X Refusal} (Ok x) (Err refusal) → ⊥
    differ e = cc
err-few X (Err other) refusal few e = let same : other
    ≡ refusal = cc in subst (λ refusal. number_of refusal ≤ 6) same few

pub step-refusals : (m : Contents) (command : Command) (refusal : Refusal) → (step m command).answer ≡ Err refusal
    → number_of refusal ≤ 6
step-refusals m command refusal = err-few Outcome (step m command).answer refusal (step-few m command)

pub ask-refusals : (windows : List Window) (who : Waiter) (refusal : Refusal) → ask windows who ≡ Err refusal
    → number_of refusal ≤ 6
ask-refusals windows who refusal = err-few Entry (ask windows who) refusal
    (ask-few who.number (slice_get windows who.element))
