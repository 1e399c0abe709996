-- A command is accepted exactly where it changes the memory.
use Rattle.std.proofs.Common.{◌≡◌, ℕ, ◌+◌, ◌-◌, ◌<◌, ◌≤◌, max, Bool, true, false, get_or, drop, set, is_ok, IsOk}
use Rattle.std.proofs.Common.{nat_lt, slice_get, Some, None, Ok, Err, Option, Result, sym, refl, ap, ◌∙◌, ⊎_elim, arith}
use Rattle.std.proofs.lemmas.{Bool.Decides.nat_tests, List.set-get_or}
use Rattle.im_types.specs.Types.{Request, Command, Outcome, Judged, Asks, Confirm, Fresh, Repeat, Refusal, Window}
use Rattle.im_types.specs.Types.{Contents, new_window, judge, confirm_window, bounds_of, bounds, step_request}
use Rattle.im_types.specs.Types.{step_confirm, step, is_fresh, moves_base, is_accepted, unless_refused, acceptance}
use Rattle.im_laws.proofs.BoundsLemmas.{bounds-confirm_here, bounds-confirm_other, bounds-next, bounds-serve_here}
use Rattle.im_laws.proofs.BoundsLemmas.{bounds-serve_other}
use Rattle.im_laws.proofs.{RunAgrees.confirm-ok, RunAgrees.IsConfirmed, StepLemmas.judge-fresh, WindowLemmas.window_at}
use Rattle.im_laws.proofs.Tests.{true_false, true_or_false}
use Rattle.im_laws.specs.Windows.{MovesBase, TakesNextNumber}

pub same_bounds : (a b c d : ℕ) → ◌≡◌ {A = Result (ℕ × ℕ) Refusal} (Ok (a, b)) (Ok (c, d)) → (a ≡ c) × (b ≡ d)
same_bounds a b c d e = let pair : ◌≡◌ {A = ℕ × ℕ} (a, b) (c, d) = cc in
    (ap (λ (p : ℕ × ℕ). p.0) pair, ap (λ (p : ℕ × ℕ). p.1) pair)

fresh_only : (j : Result Judged Refusal) → is_fresh j ≡ true → j ≡ Ok Fresh
fresh_only (Ok Fresh) e = refl
fresh_only (Ok (Repeat entry)) e = absurd (true_false (sym e))
fresh_only (Err refusal) e = absurd (true_false (sym e))

pub accepted-fresh : (m : Contents) (r : Request) → is_accepted m (Asks r) ≡ true → judge m.windows r ≡ Ok Fresh
accepted-fresh m r e = fresh_only (judge m.windows r) e

-- an accepted request takes its element's next number
pub accepted-takes_next : (m : Contents) (r : Request) → is_accepted m (Asks r) ≡ true → TakesNextNumber m r
accepted-takes_next m r e =
    let fresh = accepted-fresh m r e in
    let n = judge-fresh m.windows r fresh in
    record {
      base = n.window.base;
      before = bounds-next m r n;
      after = ap (λ j. bounds (step_request m r j).contents.windows r.element) fresh ∙ bounds-serve_here m r n;
      others = λ element other. ap (λ j. bounds (step_request m r j).contents.windows element) fresh
          ∙ bounds-serve_other m r element other;
    }

-- a confirmation that isn't refused: the window that was there, beside the one that is there now
pub record Confirms (m : Contents) (element upto : ℕ) (now : Window) : Type 0 where
  pub window : Window
  pub there : slice_get m.windows element ≡ Some window
  pub is : IsConfirmed upto window now

pub confirm-confirms : (m : Contents) (element upto : ℕ) (now : Window)
    → confirm_window upto (slice_get m.windows element) ≡ Ok now
    → Confirms m element upto now
confirm-confirms m element upto now e = by_window (slice_get m.windows element) refl e
  where
    by_window : (o : Option Window) → slice_get m.windows element ≡ o → confirm_window upto o ≡ Ok now
        → Confirms m element upto now
    by_window None at c = absurd (cc)
    by_window (Some w) at c = record { window = w; there = at; is = confirm-ok upto w now c }

moves_base-ok : (upto : ℕ) (w : Window) (c : Result Window Refusal) → moves_base upto w c ≡ true → (now : Window)
    × (c ≡ Ok now)
moves_base-ok upto w (Ok now) e = (now, refl)
moves_base-ok upto w (Err refusal) e = absurd (true_false (sym e))

-- an accepted confirmation moves the base
pub accepted-moves_base : (m : Contents) (element upto : ℕ) → is_accepted m (Confirm element upto) ≡ true
    → MovesBase m element upto
accepted-moves_base m element upto e =
    let found = moves_base-ok upto (get_or m.windows element new_window)
    (confirm_window upto (slice_get m.windows element)) e in
    let c = confirm-confirms m element upto found.0 found.1 in
    let above : nat_lt c.window.base upto ≡ true =
    ap (λ (w : Window). nat_lt w.base upto) (sym (window_at m.windows element c.window c.there))
    ∙ ap (moves_base upto (get_or m.windows element new_window)) (sym found.1) ∙ e in
    let rises : c.window.base < upto = grind (arith, nat_tests) in
    record {
      base = c.window.base;
      next = _;
      before = ap bounds_of c.there;
      after = ap (λ k. bounds (step_confirm m element k).contents.windows element) found.1
          ∙ bounds-confirm_here m.windows element upto c.window found.0 c.there c.is
          ∙ ap (with_base _) (let h = rises in omega arith);
      rises = rises;
      reached = c.is.reached;
      others = λ other n. ap (λ k. bounds (step_confirm m element k).contents.windows other) found.1
          ∙ bounds-confirm_other m.windows element upto c.window found.0 c.there other n;
    }
  where
    with_base : ℕ → ℕ → Result (ℕ × ℕ) Refusal
    with_base next base = Ok (base, next)

-- what is accepted changes the memory
pub accepted-changes : (m : Contents) (command : Command) → is_accepted m command ≡ true → (step m command).contents
    ≡ m → ⊥
accepted-changes m (Asks r) e same =
    let t = accepted-takes_next m r e in
    let one_more = (same_bounds t.base (r.number + 1) t.base r.number
    (sym t.after ∙ ap (λ (m : Contents). bounds m.windows r.element) same ∙ t.before)).1 in
    absurd (omega arith)
accepted-changes m (Confirm element upto) e same =
    let c = accepted-moves_base m element upto e in
    let rises = c.rises in
    let stays = (same_bounds upto c.next c.base c.next
    (sym c.after ∙ ap (λ (m : Contents). bounds m.windows element) same ∙ c.before)).0 in
    absurd (omega arith)

-- a base that is confirmed again leaves its window
confirmed_again : (upto : ℕ) (w now : Window) → upto ≤ w.base → IsConfirmed upto w now → now ≡ w
confirmed_again upto w now low c =
    let base : max w.base upto ≡ w.base = omega arith in
    let none : upto - w.base ≡ 0 = omega arith in
    c.is ∙ (λ i. record { base = base i; kept = drop (none i) w.kept })

-- what isn't accepted leaves it
pub unaccepted-leaves : (m : Contents) (command : Command) → is_accepted m command ≡ false
    → (step m command).contents ≡ m
unaccepted-leaves m (Asks r) e = by_judged (judge m.windows r) e
  where
    by_judged : (j : Result Judged Refusal) → is_fresh j ≡ false → (step_request m r j).contents ≡ m
    by_judged (Err refusal) e = refl
    by_judged (Ok (Repeat entry)) e = refl
    by_judged (Ok Fresh) e = absurd (true_false e)
unaccepted-leaves m (Confirm element upto) e = by_result (confirm_window upto (slice_get m.windows element)) refl e
  where
    by_result : (k : Result Window Refusal) → confirm_window upto (slice_get m.windows element) ≡ k
        → moves_base upto (get_or m.windows element new_window) k ≡ false → (step_confirm m element k).contents ≡ m
    by_result (Err refusal) k e = refl
    by_result (Ok now) k e =
        let c = confirm-confirms m element upto now k in
        let here = window_at m.windows element c.window c.there in
        let test : nat_lt c.window.base upto ≡ false = ap (λ (w : Window). nat_lt w.base upto) (sym here) ∙ e in
        let low : upto ≤ c.window.base = grind (arith, nat_tests) in
        let same : now ≡ get_or m.windows element new_window = confirmed_again upto c.window now low c.is ∙ sym here in
        ap (λ windows. record { cells = m.cells; windows = windows })
        (ap (set m.windows element) same ∙ set-get_or m.windows element new_window)

-- what changes the memory is accepted
pub changed-accepted : (m : Contents) (command : Command) → ((step m command).contents ≡ m → ⊥)
    → is_accepted m command ≡ true
changed-accepted m command changes = by_test (is_accepted m command) refl
  where
    by_test : (b : Bool) → is_accepted m command ≡ b → b ≡ true
    by_test true e = refl
    by_test false e = absurd (changes (unaccepted-leaves m command e))

pub left-unaccepted : (m : Contents) (command : Command) → (step m command).contents ≡ m → is_accepted m command ≡ false
left-unaccepted m command leaves = ⊎_elim (λ e. absurd (accepted-changes m command e leaves)) (λ e. e)
    (true_or_false (is_accepted m command))

-- what acceptance tells: the refusal, or whether the command would be accepted
unless_refused-err : (b : Bool) (answer : Result Outcome Refusal) (refusal : Refusal) → unless_refused b answer
    ≡ Err refusal → answer ≡ Err refusal
unless_refused-err b (Ok outcome) refusal e = absurd (not_err e)
  where
    not_err : ◌≡◌ {A = Result Bool Refusal} (Ok b) (Err refusal) → ⊥
    not_err e = cc
unless_refused-err b (Err other) refusal e = let same : other ≡ refusal = cc in ap Err same

unless_refused-ok : (b : Bool) (answer : Result Outcome Refusal) (accepts : Bool) → unless_refused b answer
    ≡ Ok accepts → (b ≡ accepts) × IsOk answer
unless_refused-ok b (Ok outcome) accepts e = (same e, refl)
  where
    same : ◌≡◌ {A = Result Bool Refusal} (Ok b) (Ok accepts) → b ≡ accepts
    same e = cc
unless_refused-ok b (Err refusal) accepts e = absurd (not_ok e)
  where
    not_ok : ◌≡◌ {A = Result Bool Refusal} (Err refusal) (Ok accepts) → ⊥
    not_ok e = cc

ok-unless_refused : (b : Bool) (answer : Result Outcome Refusal) → IsOk answer → unless_refused b answer ≡ Ok b
ok-unless_refused b (Ok outcome) e = refl
ok-unless_refused b (Err refusal) e = absurd (true_false (sym e))

pub accepted-ok : (m : Contents) (command : Command) → is_accepted m command ≡ true → IsOk (step m command).answer
accepted-ok m (Asks r) e = ap (λ j. is_ok (step_request m r j).answer) (accepted-fresh m r e)
accepted-ok m (Confirm element upto) e =
    let found = moves_base-ok upto (get_or m.windows element new_window)
    (confirm_window upto (slice_get m.windows element)) e in
    ap (λ k. is_ok (step_confirm m element k).answer) found.1

pub acceptance-refused : (m : Contents) (command : Command) (refusal : Refusal) → acceptance m command ≡ Err refusal
    → (step m command).answer ≡ Err refusal
acceptance-refused m command refusal = unless_refused-err (is_accepted m command) (step m command).answer refusal

pub refused-acceptance : (m : Contents) (command : Command) (refusal : Refusal) → (step m command).answer ≡ Err refusal
    → acceptance m command ≡ Err refusal
refused-acceptance m command refusal e = ap (unless_refused (is_accepted m command)) e

pub acceptance-changes : (m : Contents) (command : Command) → acceptance m command ≡ Ok true
    → (step m command).contents ≡ m → ⊥
acceptance-changes m command e = accepted-changes m command
    (unless_refused-ok (is_accepted m command) (step m command).answer true e).0

pub changes-acceptance : (m : Contents) (command : Command) → ((step m command).contents ≡ m → ⊥)
    → acceptance m command ≡ Ok true
changes-acceptance m command changes =
    let accepts = changed-accepted m command changes in
    ok-unless_refused (is_accepted m command) (step m command).answer (accepted-ok m command accepts) ∙ ap Ok accepts

pub acceptance-leaves : (m : Contents) (command : Command) → acceptance m command ≡ Ok false
    → IsOk (step m command).answer × ((step m command).contents ≡ m)
acceptance-leaves m command e =
    let ok = unless_refused-ok (is_accepted m command) (step m command).answer false e in
    (ok.1, unaccepted-leaves m command ok.0)

pub leaves-acceptance : (m : Contents) (command : Command) → IsOk (step m command).answer
    × ((step m command).contents ≡ m)
    → acceptance m command ≡ Ok false
leaves-acceptance m command both = ok-unless_refused (is_accepted m command) (step m command).answer both.0
    ∙ ap Ok (left-unaccepted m command both.1)
