-- Each command keeps that who waits at a cell is who has a waiting entry, and so does each run.
use Rattle.std.proofs.Common.{◌≡◌, ℕ, zero, suc, ◌+◌, ◌-◌, ◌<◌, ◌≤◌, max, Bool, true, false, cond, ◌&&◌, ◌⊎◌, List, []}
use Rattle.std.proofs.Common.{◌∷◌, take, drop, set, replicate, nat_lt, ◌==◌, slice_get, Some, None, Ok, Err, Option}
use Rattle.std.proofs.Common.{Result, option_and_then, sym, refl, ap, ◌∙◌, subst, inl, inr, ⊎_elim, suc-add, zero-add}
use Rattle.std.proofs.Common.{arith}
use Rattle.std.{proofs.lemmas.Bool.Decides.nat_tests, specs.List.list_any}
use Rattle.im_types.specs.Types.{Waiter, Kept, Command, Judged, Asks, Confirm, Fresh, Repeat, Refusal, Gap, NotAnswered}
use Rattle.im_types.specs.Types.{Window, Contents, new_window, held_at, waiters_in, kept_under, kept_for}
use Rattle.im_types.specs.Types.{empty_contents, times, waits_in, WaitersAgree, WaitingAgrees, StaysOrIsAnswered}
use Rattle.im_types.specs.Types.{KeepsEntries, next_number, judge, is_waiting, confirm_window, step_request}
use Rattle.im_types.specs.Types.{step_confirm, step, after}
use Rattle.im_laws.proofs.AgreementLemmas.{answer-agrees, IsQuiet, no_quiet}
use Rattle.im_laws.proofs.{StepAgrees.act-agrees, StepLemmas.judge-fresh}
use Rattle.im_laws.proofs.Tests.{below_or_from, eq_by_test, or_left, or_right}
use Rattle.im_laws.proofs.WindowLemmas.{kept_for-here, kept_for-set, kept_under-below, kept_under-from}

slice_get-drop : (xs : List Kept) (k i : ℕ) → slice_get (drop k xs) i ≡ slice_get xs (k + i)
slice_get-drop xs zero i = ap (slice_get xs) (sym (zero-add i))
slice_get-drop [] (suc k) i = refl
slice_get-drop (x ∷ xs) (suc k) i = slice_get-drop xs k i ∙ ap (slice_get (x ∷ xs)) (sym (suc-add k i))

pub quiet_front : (kept : List Kept) (n i : ℕ) → list_any is_waiting (take n kept) ≡ false → i < n
    → IsQuiet (slice_get kept i)
quiet_front [] n i e h = no_quiet
quiet_front (k ∷ kept) zero i e h = absurd (omega arith)
quiet_front (k ∷ kept) (suc n) zero e h = λ x is. let same : k ≡ x = cc in sym (ap is_waiting same)
    ∙ or_left (is_waiting k) (list_any is_waiting (take n kept)) e
quiet_front (k ∷ kept) (suc n) (suc i) e h = quiet_front kept n i
    (or_right (is_waiting k) (list_any is_waiting (take n kept)) e) (omega arith)

-- what is kept under a number after a confirmation: the same, or nothing, where it was answered
confirmed : (w : Window) (upto n : ℕ) → list_any is_waiting (take (upto - w.base) w.kept) ≡ false
    → let now : Window = record { base = max w.base upto; kept = drop (upto - w.base) w.kept } in
    (kept_under now n ≡ kept_under w n) ⊎ (IsQuiet (kept_under now n) × IsQuiet (kept_under w n))
confirmed w upto n quiet = ⊎_elim
    (λ below. inl (kept_under-below now n (omega arith) ∙ sym (kept_under-below w n below)))
    (λ from. ⊎_elim
    (λ dropped. inr (
      subst IsQuiet (sym (kept_under-below now n (omega arith))) no_quiet,
      subst IsQuiet (sym (kept_under-from w n from))
          (quiet_front w.kept (upto - w.base) (n - w.base) quiet (omega arith)),
    ))
    (λ stays. inl (
    kept_under-from now n (omega arith) ∙ slice_get-drop w.kept (upto - w.base) (n - max w.base upto)
    ∙ ap (slice_get w.kept) (omega arith) ∙ sym (kept_under-from w n from)))
    (below_or_from n upto))
    (below_or_from n w.base)
  where
    now : Window
    now = record { base = max w.base upto; kept = drop (upto - w.base) w.kept }

-- what a confirmation that isn't refused comes to
pub record IsConfirmed (upto : ℕ) (w new : Window) : Type 0 where
  pub reached : upto ≤ next_number w
  pub quiet : list_any is_waiting (take (upto - w.base) w.kept) ≡ false
  pub is : new ≡ record { base = max w.base upto; kept = drop (upto - w.base) w.kept }

pub confirm-ok : (upto : ℕ) (w new : Window) → confirm_window upto (Some w) ≡ Ok new → IsConfirmed upto w new
confirm-ok upto w new e = by_tests (nat_lt (next_number w) upto) refl
    (list_any is_waiting (take (upto - w.base) w.kept)) refl e
  where
    by_tests : (far : Bool) → nat_lt (next_number w) upto ≡ far → (waits : Bool)
        → list_any is_waiting (take (upto - w.base) w.kept) ≡ waits
        → cond far (Err Gap)
        (cond waits (Err NotAnswered)
        (Ok (record { base = max w.base upto; kept = drop (upto - w.base) w.kept }))) ≡ Ok new
        → IsConfirmed upto w new
    by_tests true f waits q e = absurd (cc)
    by_tests false f true q e = absurd (cc)
    by_tests false f false q e = record { reached = grind (arith, nat_tests); quiet = q; is = cc }

confirm-agrees : (m : Contents) (element upto : ℕ) (w new : Window) → slice_get m.windows element ≡ Some w
    → IsConfirmed upto w new → WaitingAgrees m
    → WaitersAgree m.cells (kept_for (set m.windows element new))
confirm-agrees m element upto w new at c agrees = answer-agrees m.cells (kept_for m.windows)
    (kept_for (set m.windows element new)) agrees (λ who. by_test who (who.element == element) refl)
  where
    by_test : (who : Waiter) (b : Bool) → (who.element == element) ≡ b
        → (kept_for (set m.windows element new) who ≡ kept_for m.windows who)
        ⊎ (IsQuiet (kept_for (set m.windows element new) who) × IsQuiet (kept_for m.windows who))
    by_test who true e =
        let now : kept_for (set m.windows element new) who
        ≡ kept_under (record { base = max w.base upto; kept = drop (upto - w.base) w.kept }) who.number =
        kept_for-set m.windows element w new who at
        ∙ ap (λ b. cond b (kept_under new who.number) (kept_for m.windows who)) e
        ∙ ap (λ (v : Window). kept_under v who.number) c.is in
        let was = kept_for-here m.windows element w who at (eq_by_test who.element element e) in
        ⊎_elim
        (λ same. inl (now ∙ same ∙ sym was))
        (λ quiet. inr (subst IsQuiet (sym now) quiet.0, subst IsQuiet (sym was) quiet.1))
        (confirmed w upto who.number c.quiet)
    by_test who false e = inl
        (kept_for-set m.windows element w new who at
        ∙ ap (λ b. cond b (kept_under new who.number) (kept_for m.windows who)) e)

-- one command
pub step-agrees : (m : Contents) (command : Command) → WaitingAgrees m → WaitingAgrees (step m command).contents
step-agrees m (Asks r) agrees = by_judged (judge m.windows r) refl
  where
    by_judged : (j : Result Judged Refusal) → judge m.windows r ≡ j → WaitingAgrees (step_request m r j).contents
    by_judged (Err refusal) e = agrees
    by_judged (Ok (Repeat entry)) e = agrees
    by_judged (Ok Fresh) e = (act-agrees m.windows m.cells r (judge-fresh m.windows r e) agrees r.op refl).agreed
step-agrees m (Confirm element upto) agrees = by_window (slice_get m.windows element) refl
  where
    by_result : (w : Window) → slice_get m.windows element ≡ Some w → (c : Result Window Refusal)
        → confirm_window upto (Some w) ≡ c
        → WaitingAgrees (step_confirm m element c).contents
    by_result w at (Err refusal) e = agrees
    by_result w at (Ok new) e = confirm-agrees m element upto w new at (confirm-ok upto w new e) agrees

    by_window : (o : Option Window) → slice_get m.windows element ≡ o
        → WaitingAgrees (step_confirm m element (confirm_window upto o)).contents
    by_window None at = agrees
    by_window (Some w) at = by_result w at (confirm_window upto (Some w)) refl

-- what is kept under a number that isn't below the confirmed one
pub confirmed_stays : (w : Window) (upto n : ℕ) → upto ≤ n
    → kept_under (record { base = max w.base upto; kept = drop (upto - w.base) w.kept }) n ≡ kept_under w n
confirmed_stays w upto n stays = ⊎_elim
    (λ below. kept_under-below now n (omega arith) ∙ sym (kept_under-below w n below))
    (λ from. kept_under-from now n (omega arith) ∙ slice_get-drop w.kept (upto - w.base) (n - max w.base upto)
    ∙ ap (slice_get w.kept) (omega arith) ∙ sym (kept_under-from w n from))
    (below_or_from n w.base)
  where
    now : Window
    now = record { base = max w.base upto; kept = drop (upto - w.base) w.kept }

-- what is kept stays kept, until it is confirmed
pub step-keeps : (m : Contents) (command : Command) → WaitingAgrees m → KeepsEntries m command (step m command).contents
step-keeps m (Asks r) agrees who k is = by_judged (judge m.windows r) refl
  where
    by_judged : (j : Result Judged Refusal) → judge m.windows r ≡ j
        → (false ≡ true) ⊎ StaysOrIsAnswered k (kept_for (step_request m r j).contents.windows who)
    by_judged (Err refusal) e = inr (inl is)
    by_judged (Ok (Repeat entry)) e = inr (inl is)
    by_judged (Ok Fresh) e = inr
        ((act-agrees m.windows m.cells r (judge-fresh m.windows r e) agrees r.op refl).keeps who k is)
step-keeps m (Confirm element upto) agrees who k is = by_window (slice_get m.windows element) refl
  where
    by_tests : (w new : Window) → slice_get m.windows element ≡ Some w → IsConfirmed upto w new → (a b : Bool)
        → (who.element == element) ≡ a → nat_lt who.number upto ≡ b
        → ((a && b) ≡ true) ⊎ StaysOrIsAnswered k (kept_for (set m.windows element new) who)
    by_tests w new at c true true e f = inl refl
    by_tests w new at c true false e f =
        let stays : upto ≤ who.number = grind (arith, nat_tests) in
        inr (inl (
        kept_for-set m.windows element w new who at
        ∙ ap (λ b. cond b (kept_under new who.number) (kept_for m.windows who)) e
        ∙ ap (λ (v : Window). kept_under v who.number) c.is
        ∙ confirmed_stays w upto who.number stays
        ∙ sym (kept_for-here m.windows element w who at (eq_by_test who.element element e)) ∙ is))
    by_tests w new at c false b e f = inr
        (inl (kept_for-set m.windows element w new who at
        ∙ ap (λ b. cond b (kept_under new who.number) (kept_for m.windows who)) e ∙ is))

    by_result : (w : Window) → slice_get m.windows element ≡ Some w → (c : Result Window Refusal)
        → confirm_window upto (Some w) ≡ c
        → (((who.element == element) && nat_lt who.number upto) ≡ true)
        ⊎ StaysOrIsAnswered k (kept_for (step_confirm m element c).contents.windows who)
    by_result w at (Err refusal) e = inr (inl is)
    by_result w at (Ok new) e = by_tests w new at (confirm-ok upto w new e) (who.element == element)
        (nat_lt who.number upto) refl refl

    by_window : (o : Option Window) → slice_get m.windows element ≡ o
        → (((who.element == element) && nat_lt who.number upto) ≡ true)
        ⊎ StaysOrIsAnswered k (kept_for (step_confirm m element (confirm_window upto o)).contents.windows who)
    by_window None at = inr (inl is)
    by_window (Some w) at = by_result w at (confirm_window upto (Some w)) refl

-- any commands
pub after-agrees : (m : Contents) (commands : List Command) → WaitingAgrees m → WaitingAgrees (after m commands)
after-agrees m [] agrees = agrees
after-agrees m (command ∷ commands) agrees = after-agrees (step m command).contents commands
    (step-agrees m command agrees)

-- nobody waits in a memory with no block and no entry
pub no_cell : (n a : ℕ) → held_at (replicate n None) a ≡ None
no_cell zero a = refl
no_cell (suc n) zero = refl
no_cell (suc n) (suc a) = no_cell n a

no_entry : (b : Bool) → ◌≡◌ {A = Option Kept} (cond b None None) None
no_entry true = refl
no_entry false = refl

no_window : (n element number : ℕ)
    → option_and_then (λ w. kept_under w number) (slice_get (replicate n new_window) element) ≡ None
no_window zero element number = refl
no_window (suc n) zero number = no_entry (nat_lt number 1)
no_window (suc n) (suc element) number = no_window n element number

nothing_kept : (n : ℕ) (who : Waiter) → kept_for (replicate n new_window) who ≡ None
nothing_kept n who = no_window n who.element who.number

pub empty-agrees : (cells elements : ℕ) → WaitingAgrees (empty_contents cells elements)
unfolding empty_contents
empty-agrees cells elements = record {
  listed = λ who a. let e = no_cell cells a in subst
      (λ c. times who (waiters_in c) ≡ cond (waits_in a c (kept_for (replicate elements new_window) who)) 1 0)
      (sym e) refl;
  somewhere = λ who k is waiting. absurd (none k (sym (nothing_kept elements who) ∙ is));
}
  where
    none : (k : Kept) → None ≡ Some k → ⊥
    none k e = cc
