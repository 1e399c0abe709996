-- Bounds never go back, so a dropped number stays dropped and a number acts once.
use Rattle.std.proofs.Common.{◌≡◌, ℕ, ◌+◌, ◌-◌, ◌<◌, max, Bool, true, false, cond, List, [], ◌∷◌, length, nat_lt}
use Rattle.std.proofs.Common.{slice_get, Some, None, Ok, Err, Option, Result, sym, refl, ap, ◌∙◌, ⊎_elim, arith}
use Rattle.std.proofs.lemmas.Bool.Decides.{nat_tests}
use Rattle.im_types.specs.Types.{Entry, Waiter, Kept, Request, Command, Asks, Refusal, Forgotten, Window, Contents}
use Rattle.im_types.specs.Types.{judge_number, judge_window, judge, ask_number, ask_window, ask, bounds_of, bounds}
use Rattle.im_types.specs.Types.{asker, step_request, step, is_accepted, after}
use Rattle.im_laws.proofs.AcceptLemmas.{accepted-takes_next, same_bounds}
use Rattle.im_laws.proofs.BoundsLemmas.{BoundsMove, Grows, Rises, Stays, step-moves}
use Rattle.im_laws.proofs.{MemoryLemmas.bounds-window, Tests.true_or_false}
use Rattle.im_laws.specs.{Entries.IsRefused, Windows.AreNoLess, Windows.IsForgotten}

move-no_less : (base next : ℕ) (before after : Result (ℕ × ℕ) Refusal) → before ≡ Ok (base, next)
    → BoundsMove before after
    → AreNoLess base next after
move-no_less base next before after are
    (Stays same) = record {
      base_now = base;
      next_now = next;
      are = same
          ∙ are;
      base_rises = omega arith;
      next_rises = omega arith;
    }
move-no_less base next before after are (Grows base' next' was now room last) =
    let is = same_bounds base next base' next' (sym are ∙ was) in
    let base_is = is.0 in
    let next_is = is.1 in
    record { base_now = base'; next_now = next' + 1; are = now; base_rises = omega arith; next_rises = omega arith }
move-no_less base next before after are (Rises base' next' upto was now reached) =
    let is = same_bounds base next base' next' (sym are ∙ was) in
    let base_is = is.0 in
    let next_is = is.1 in
    record { base_now = max base' upto; next_now = next'; are = now; base_rises = omega arith; next_rises = omega arith }

pub after-no_less : (m : Contents) (commands : List Command) (element base next : ℕ) → bounds m.windows element
    ≡ Ok (base, next)
    → AreNoLess base next (bounds (after m commands).windows element)
after-no_less m [] element base next are = record { base_now = base; next_now = next; are = are; base_rises = omega arith; next_rises = omega arith }
after-no_less m (command ∷ commands) element base next are =
    let first = move-no_less base next (bounds m.windows element)
    (bounds (step m command).contents.windows element) are (step-moves m command element) in
    let rest = after-no_less (step m command).contents commands element first.base_now first.next_now first.are in
    let one = first.base_rises in
    let two = first.next_rises in
    let three = rest.base_rises in
    let four = rest.next_rises in
    record { base_now = rest.base_now; next_now = rest.next_now; are = rest.are; base_rises = omega arith; next_rises = omega arith }

-- a number below the base
pub bounds-forgotten : (windows : List Window) (who : Waiter) (base next : ℕ) → bounds windows who.element
    ≡ Ok (base, next)
    → who.number < base → IsForgotten windows who
bounds-forgotten windows who base next are below =
    let w = bounds-window windows who.element base next are in
    let is = w.base_is in
    record { window = w.window; there = w.there; below = omega arith }

-- stays below it
pub after-forgotten : (m : Contents) (commands : List Command) (who : Waiter) → IsForgotten m.windows who
    → IsForgotten (after m commands).windows who
after-forgotten m commands who f =
    let later = after-no_less m commands who.element f.window.base (f.window.base + length f.window.kept)
    (ap bounds_of f.there) in
    let below = f.below in
    let rises = later.base_rises in
    bounds-forgotten (after m commands).windows who later.base_now later.next_now later.are (omega arith)

forgotten-test : (windows : List Window) (who : Waiter) → (f : IsForgotten windows who)
    → nat_lt who.number f.window.base ≡ true
forgotten-test windows who f = let below = f.below in grind (arith, nat_tests)

judge-forgotten : (windows : List Window) (r : Request) → IsForgotten windows (asker r) → judge windows r
    ≡ Err Forgotten
judge-forgotten windows r f =
    ap (judge_window r) f.there
    ∙ ap (λ b. cond b (Err Forgotten) (judge_number f.window r (slice_get f.window.kept (r.number - f.window.base))))
    (forgotten-test windows (asker r) f)

-- and is refused
pub step-forgotten : (m : Contents) (r : Request) → IsForgotten m.windows (asker r) → IsRefused m r Forgotten
step-forgotten m r f = ap (step_request m r) (judge-forgotten m.windows r f)

-- who asks is told so
pub ask-forgotten : (windows : List Window) (who : Waiter) → IsForgotten windows who → ask windows who ≡ Err Forgotten
ask-forgotten windows who f =
    ap (ask_window who.number) f.there
    ∙ ap (λ b. cond b (Err Forgotten) (ask_number (slice_get f.window.kept (who.number - f.window.base))))
    (forgotten-test windows who f)

pub asked-forgotten : (windows : List Window) (who : Waiter) → ask windows who ≡ Err Forgotten → IsForgotten windows who
asked-forgotten windows who e = by_window (slice_get windows who.element) refl e
  where
    not_forgotten : (o : Option Kept) → ask_number o ≡ Err Forgotten → ⊥
    not_forgotten None e = let h : ◌≡◌ {A = Result Entry Refusal} (ask_number None) (Err Forgotten) = e in cc
    not_forgotten (Some k) e = let h : ◌≡◌ {A = Result Entry Refusal} (Ok k.entry) (Err Forgotten) = e in cc

    by_test : (w : Window) → slice_get windows who.element ≡ Some w → (b : Bool) → nat_lt who.number w.base ≡ b
        → cond b (Err Forgotten) (ask_number (slice_get w.kept (who.number - w.base))) ≡ Err Forgotten
        → IsForgotten windows who
    by_test w at true t e = record { window = w; there = at; below = grind (arith, nat_tests) }
    by_test w at false t e = absurd (not_forgotten (slice_get w.kept (who.number - w.base)) e)

    by_window : (o : Option Window) → slice_get windows who.element ≡ o → ask_window who.number o ≡ Err Forgotten
        → IsForgotten windows who
    by_window None at e = absurd
        (let h : ◌≡◌ {A = Result Entry Refusal} (ask_window who.number None) (Err Forgotten) = e in cc)
    by_window (Some w) at e = by_test w at (nat_lt who.number w.base) refl e

-- a number that was accepted is never accepted again
pub accepted_once : (m : Contents) (r again : Request) (commands : List Command) → is_accepted m (Asks r) ≡ true
    → asker again ≡ asker r
    → is_accepted (after (step m (Asks r)).contents commands) (Asks again) ≡ false
accepted_once m r again commands e same = ⊎_elim
    (λ accepts. let first = accepted-takes_next m r e in
    let later : Contents = after (step m (Asks r)).contents commands in
    let now = after-no_less (step m (Asks r)).contents commands r.element first.base (r.number + 1) first.after in
    let second = accepted-takes_next later again accepts in
    let element : again.element ≡ r.element = ap (λ (who : Waiter). who.element) same in
    let number : again.number ≡ r.number = ap (λ (who : Waiter). who.number) same in
    let is = (same_bounds now.base_now now.next_now second.base again.number
    (sym now.are ∙ sym (ap (bounds later.windows) element) ∙ second.before)).1 in
    let rises = now.next_rises in
    absurd (omega arith))
    (λ refuses. refuses)
    (true_or_false (is_accepted (after (step m (Asks r)).contents commands) (Asks again)))
