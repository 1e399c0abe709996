-- Only fetches of the plan wait for a cell that the plan names, all through a planned run.
use Rattle.std.proofs.Common.{◌≡◌, ℕ, suc, ◌+◌, ◌≤◌, Bool, true, false, cond, ◌⊎◌, List, [], ◌∷◌, slice_get, Some, None}
use Rattle.std.proofs.Common.{Ok, Err, Option, Result, sym, refl, ap, ◌∙◌, subst, inl, inr, ⊎_elim, arith}
use Rattle.std.proofs.lemmas.{Bool.cases_eq, Option.none-some, Option.same_Some}
use Rattle.std.specs.List.{AllByRecursion}
use Rattle.im_types.specs.Types.{Op, Waiter, Kept, Waiting, Fetch, Request, Command, Call, Line, Asks, Confirm}
use Rattle.im_types.specs.Types.{Commands, Collect, Refusal, Window, Contents, kept_for, same_waiter, times, address_of}
use Rattle.im_types.specs.Types.{WaitingAgrees, StaysOrIsAnswered, drops, act, next_number, is_waiting, confirm_window}
use Rattle.im_types.specs.Types.{bounds_of, bounds, asker, step_request, step_confirm, step, is_accepted}
use Rattle.im_types.specs.Types.{contents_after, end_of}
use Rattle.im_laws.proofs.AcceptLemmas.{accepted-fresh, accepted-takes_next, same_bounds, unaccepted-leaves}
use Rattle.im_laws.proofs.{AgreementLemmas.same_waiter-equal, AgreementLemmas.same_waiter-self, EntryLemmas.told-kept}
use Rattle.im_laws.proofs.{JudgeLemmas.bounds-kept, JudgeLemmas.kept_for-confirmed, RunAgrees.step-agrees}
use Rattle.im_laws.proofs.{RunAgrees.step-keeps, Tests.true_false, Tests.true_or_false, WindowLemmas.kept_for-window}
use Rattle.im_laws.specs.Windows.{TakesNextNumber}
use Rattle.im_plans.proofs.Taken.{bounds-taken, kept-taken, request-taken}
use Rattle.im_plans.specs.{Runs.IsInPlan, Runs.IsPlannedCall, Runs.IsPlannedRun, Runs.IsTaken, UnderWay.fetch_by}

-- ---- lists of requests that wait

pub first-listed : (w : Waiter) (ws : List Waiter) → 1 ≤ times w (w ∷ ws)
first-listed w ws = by_test (same_waiter w w) (same_waiter-self w)
  where
    by_test : (b : Bool) → b ≡ true → 1 ≤ cond b (suc (times w ws)) (times w ws)
    by_test true e = omega arith
    by_test false e = absurd (true_false (sym e))

pub all-times : (P : Waiter → Type 0) (waiters : List Waiter) → ((who : Waiter) → 1 ≤ times who waiters → P who)
    → AllByRecursion P waiters
all-times P [] each = tt
all-times P (w ∷ ws) each = (each w (first-listed w ws), all-times P ws later)
  where
    more : (b : Bool) (n : ℕ) → 1 ≤ n → 1 ≤ cond b (suc n) n
    more true n some = omega arith
    more false n some = some

    later : (who : Waiter) → 1 ≤ times who ws → P who
    later who some = each who (more (same_waiter who w) (times who ws) some)

pub times-all : (P : Waiter → Type 0) (waiters : List Waiter) → AllByRecursion P waiters → (who : Waiter)
    → 1 ≤ times who waiters → P who
times-all P [] all who some = absurd (omega arith)
times-all P (w ∷ ws) all who some = by_test (same_waiter who w) refl some (times-all P ws all.1 who)
  where
    by_test : (b : Bool) → same_waiter who w ≡ b → 1 ≤ cond b (suc (times who ws)) (times who ws)
        → (1 ≤ times who ws → P who) → P who
    by_test true t some rest = subst P (sym (same_waiter-equal who w t)) all.0
    by_test false t some rest = rest some

-- ---- entries before and after a command

-- the entry of a request that waits for this address
abbrev pub waiting_at : ℕ → Kept
waiting_at a = record { op = Fetch a; entry = Waiting }

-- something is kept for another request: it was kept before the new one
was-kept : (m : Contents) (r : Request) → is_accepted m (Asks r) ≡ true → (who : Waiter) → (who ≡ asker r → ⊥)
    → (k : Kept) → kept_for (step m (Asks r)).contents.windows who ≡ Some k
    → (k : Kept) × (kept_for m.windows who ≡ Some k)
was-kept m r e who other k is =
    let w = kept_for-window (step m (Asks r)).contents.windows who k is in
    ⊎_elim (λ t. by_element w.0 w.1 w.2 t (cases_eq who.element r.element)) (λ same. absurd (other same))
    (request-taken m r e who (kept-taken (step m (Asks r)).contents.windows who k is))
  where
    next : TakesNextNumber m r
    next = accepted-takes_next m r e

    by_element : (w : Window) → slice_get (step m (Asks r)).contents.windows who.element ≡ Some w → w.base ≤ who.number
        → IsTaken m.windows who → (who.element ≡ r.element) ⊎ (who.element ≡ r.element → ⊥)
        → (k : Kept) × (kept_for m.windows who ≡ Some k)
    by_element w at from t (inl same) =
        let are : bounds m.windows who.element ≡ Ok (next.base, r.number) = ap (bounds m.windows) same ∙ next.before in
        let base = (same_bounds w.base (next_number w) next.base (r.number + 1)
        (sym (ap bounds_of at) ∙ ap (bounds (step m (Asks r)).contents.windows) same ∙ next.after)).0 in
        bounds-kept m.windows who next.base r.number are (omega arith)
        (bounds-taken m.windows who next.base r.number are t)
    by_element w at from t (inr apart) =
        let are : bounds m.windows who.element ≡ Ok (w.base, next_number w) =
        sym (next.others who.element apart) ∙ ap bounds_of at in
        bounds-kept m.windows who w.base (next_number w) are from
        (bounds-taken m.windows who w.base (next_number w) are t)

-- an entry that waits has waited before, or is that of the new request
waited : (m : Contents) (r : Request) → WaitingAgrees m → is_accepted m (Asks r) ≡ true → (who : Waiter)
    → (who ≡ asker r → ⊥) → (op : Op)
    → kept_for (step m (Asks r)).contents.windows who ≡ Some (record { op = op; entry = Waiting })
    → kept_for m.windows who ≡ Some (record { op = op; entry = Waiting })
waited m r agrees e who other op is = let was = was-kept m r e who other _ is in ⊎_elim
    (λ dropped. absurd (true_false (sym dropped))) (by_keeping was.0 was.1)
    (step-keeps m (Asks r) agrees who was.0 was.1)
  where
    by_keeping : (k : Kept) → kept_for m.windows who ≡ Some k
        → StaysOrIsAnswered k (kept_for (step m (Asks r)).contents.windows who)
        → kept_for m.windows who ≡ Some (record { op = op; entry = Waiting })
    by_keeping k was (inl stays) = was ∙ sym stays ∙ is
    by_keeping k was (inr answered) = absurd
        (true_false (ap is_waiting (same_Some _ _ (sym is ∙ answered.2))))

-- a confirmation adds no entry
confirm-kept : (m : Contents) (element upto : ℕ) (who : Waiter) (k : Kept)
    → kept_for (step m (Confirm element upto)).contents.windows who ≡ Some k → kept_for m.windows who ≡ Some k
confirm-kept m element upto who k is = by_result (confirm_window upto (slice_get m.windows element)) refl is
  where
    by_drop : (b : Bool) → ◌≡◌ {A = Option Kept} (cond b None (kept_for m.windows who)) (Some k)
        → kept_for m.windows who ≡ Some k
    by_drop true e = absurd (none-some k e)
    by_drop false e = e

    by_result : (c : Result Window Refusal) → confirm_window upto (slice_get m.windows element) ≡ c
        → kept_for (step_confirm m element c).contents.windows who ≡ Some k → kept_for m.windows who ≡ Some k
    by_result (Err refusal) e at = at
    by_result (Ok window) e at = by_drop (drops (Confirm element upto) who)
        (sym (kept_for-confirmed m element upto who (ap (λ c. (step_confirm m element c).answer) e)) ∙ is)

-- ---- who waits under a plan

-- a fetch, by its parts
same-fetch : (a : ℕ) (who : Waiter) (q : Request) → asker q ≡ who → q.op ≡ Fetch a → q ≡ fetch_by a who
same-fetch a who q same op = λ i. record { element = (same i).element; number = (same i).number; op = op i }

-- each entry that waits for an address of the plan's is a fetch of the plan
pub record AreAlone (plan : List Request) (m : Contents) : Type 0 where
  pub fetches : (r : Request) → IsInPlan plan r → (who : Waiter)
      → kept_for m.windows who ≡ Some (waiting_at (address_of r.op)) → IsInPlan plan (fetch_by (address_of r.op) who)

call-agrees : (m : Contents) (call : Call) → WaitingAgrees m → WaitingAgrees (contents_after m call)
call-agrees m (Commands command) agrees = step-agrees m command agrees
call-agrees m (Collect element number) agrees = agrees

module _ (plan : List Request) where
  request-alone : (m : Contents) (q : Request) → WaitingAgrees m → IsInPlan plan q → is_accepted m (Asks q) ≡ true
      → AreAlone plan m → AreAlone plan (step m (Asks q)).contents
  request-alone m q agrees q_in e alone = record {
    fetches = λ r r_in who is. by_asker r r_in who is
        (true_or_false (same_waiter who (asker q)));
  }
    where
      own : kept_for (step m (Asks q)).contents.windows (asker q)
          ≡ Some (record { op = q.op; entry = (act m.cells (asker q) q.op).entry })
      own = told-kept m q (act m.cells (asker q) q.op).entry agrees
          (ap (λ j. (step_request m q j).answer) (accepted-fresh m q e))

      not_same : (who : Waiter) → same_waiter who (asker q) ≡ false → who ≡ asker q → ⊥
      not_same who t same = true_false
          (sym (same_waiter-self (asker q)) ∙ ap (λ (w : Waiter). same_waiter w (asker q)) (sym same) ∙ t)

      by_asker : (r : Request) → IsInPlan plan r → (who : Waiter)
          → kept_for (step m (Asks q)).contents.windows who ≡ Some (waiting_at (address_of r.op))
          → (same_waiter who (asker q) ≡ true) ⊎ (same_waiter who (asker q) ≡ false)
          → IsInPlan plan (fetch_by (address_of r.op) who)
      by_asker r r_in who is (inl t) =
          let same = same_waiter-equal who (asker q) t in
          let op = ap (λ (k : Kept). k.op)
          (same_Some _ _ (sym own ∙ ap (kept_for (step m (Asks q)).contents.windows) (sym same) ∙ is)) in
          subst (IsInPlan plan) (same-fetch (address_of r.op) who q (sym same) op) q_in
      by_asker r r_in who is (inr t) = alone.fetches r r_in who (waited m q agrees e who (not_same who t) _ is)

  step-alone : (m : Contents) (command : Command) → IsPlannedCall plan (Commands command) → WaitingAgrees m
      → AreAlone plan m → AreAlone plan (step m command).contents
  step-alone m command planned agrees alone = ⊎_elim
      (λ e. by_command command planned e)
      (λ e. subst (AreAlone plan) (sym (unaccepted-leaves m command e)) alone)
      (true_or_false (is_accepted m command))
    where
      by_command : (command : Command) → IsPlannedCall plan (Commands command) → is_accepted m command ≡ true
          → AreAlone plan (step m command).contents
      by_command (Asks r) in_plan e = request-alone m r agrees in_plan e alone
      by_command (Confirm element upto) planned e = record {
        fetches = λ r r_in who is. alone.fetches r r_in who (confirm-kept m element upto who _ is);
      }

  call-alone : (m : Contents) (call : Call) → IsPlannedCall plan call → WaitingAgrees m → AreAlone plan m
      → AreAlone plan (contents_after m call)
  call-alone m (Commands command) on agrees alone = step-alone m command on agrees alone
  call-alone m (Collect element number) on agrees alone = alone

  pub end-alone : (m : Contents) (trace : List Line) → IsPlannedRun plan trace → WaitingAgrees m → AreAlone plan m
      → AreAlone plan (end_of m trace)
  end-alone m [] planned agrees alone = alone
  end-alone m (line ∷ trace) planned agrees alone = end-alone (contents_after m line.call) trace planned.1
      (call-agrees m line.call agrees) (call-alone m line.call planned.0 agrees alone)
