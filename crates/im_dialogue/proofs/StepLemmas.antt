-- What a command leaves of a request that nobody asked yet, and of a memory.
use Rattle.std.proofs.Common.{◌≡◌, ℕ, zero, suc, ◌-◌, Bool, true, false, cond, ◌&&◌, ◌⊎◌, List, [], ◌∷◌, if◌then◌else◌}
use Rattle.std.proofs.Common.{nat_lt, ◌==◌, slice_get, Some, None, Ok, Err, Option, Result, option_map, option_and_then}
use Rattle.std.proofs.Common.{sym, refl, ap, ◌∙◌, subst, inl, inr, ⊎_elim, arith}
use Rattle.im_types.specs.Types.{Entry, Reply, Waiter, Kept, Request, Command, Confirm, Refusal, Window, Contents}
use Rattle.im_types.specs.Types.{kept_under, kept_for, IsMemory, same_waiter, note, answer_at, answer_in, answer}
use Rattle.im_types.specs.Types.{answer_each, confirm_window, asker, step_confirm, step, is_accepted}
use Rattle.im_laws.proofs.AcceptLemmas.{confirm-confirms, Confirms}
use Rattle.im_laws.proofs.{BoundsLemmas.slice_get-with_window, MemoryLemmas.step-memory, RunAgrees.confirmed_stays}
use Rattle.im_laws.proofs.{StepLemmas.IsNext, Tests.below_or_from, Tests.eq_by_test}
use Rattle.im_laws.proofs.WindowLemmas.{kept_for-here, kept_for-note, kept_for-set, kept_under-below}
use Rattle.im_groups.specs.Commands.{contents_with}

-- ---- where nothing is kept, an answer leaves nothing

none_answered : (kept : List Kept) (place i : ℕ) (reply : Reply) → slice_get kept i ≡ None
    → slice_get (answer_at place reply kept) i ≡ None
none_answered [] place i reply e = refl
none_answered (k ∷ kept) zero zero reply e = absurd (cc)
none_answered (k ∷ kept) zero (suc i) reply e = e
none_answered (k ∷ kept) (suc place) zero reply e = absurd (cc)
none_answered (k ∷ kept) (suc place) (suc i) reply e = none_answered kept place i reply e

none_under : (number : ℕ) (reply : Reply) (w : Window) (n : ℕ) → kept_under w n ≡ None
    → kept_under (answer_in number reply w) n ≡ None
none_under number reply w n e = by_test (nat_lt n w.base) e
  where
    by_test : (b : Bool) → cond b None (slice_get w.kept (n - w.base)) ≡ None
        → cond b None (slice_get (answer_at (number - w.base) reply w.kept) (n - w.base)) ≡ None
    by_test true e = refl
    by_test false e = none_answered w.kept (number - w.base) (n - w.base) reply e

none_answer : (windows : List Window) (other : Waiter) (reply : Reply) (who : Waiter) → kept_for windows who ≡ None
    → kept_for (answer windows other reply) who ≡ None
none_answer windows other reply who e =
    ap (option_and_then (λ w. kept_under w who.number))
    (slice_get-with_window windows other.element who.element (answer_in other.number reply))
    ∙ by_test (who.element == other.element) (slice_get windows who.element) e
  where
    by_test : (b : Bool) (o : Option Window) → option_and_then (λ w. kept_under w who.number) o ≡ None
        → option_and_then (λ w. kept_under w who.number) (cond b (option_map (answer_in other.number reply) o) o) ≡ None
    by_test true None e = refl
    by_test true (Some w) e = none_under other.number reply w who.number e
    by_test false o e = e

pub none_answers : (windows : List Window) (replies : List (Waiter × Reply)) (who : Waiter)
    → kept_for windows who ≡ None
    → kept_for (answer_each windows replies) who ≡ None
none_answers windows [] who e = e
none_answers windows (r ∷ replies) who e =
    none_answers (answer windows r.0 r.1) replies who (none_answer windows r.0 r.1 who e)

-- ---- what a request leaves

module _ (cells elements : ℕ) (m : Contents) (is : IsMemory cells elements m) where
  module _ (r : Request) (next : IsNext m.windows r) (who : Waiter) (other : same_waiter who (asker r) ≡ false) where
    pub noted : (entry : Entry) → kept_for (note m.windows r entry) who ≡ kept_for m.windows who
    noted entry = kept_for-note m.windows r entry next.window who next.there next.next
        ∙ ap (λ b. cond b (Some (record { op = r.op; entry = entry })) (kept_for m.windows who)) other

-- ---- one member

-- a member leaves the memory as it is, or steps on it
module _ (m : Contents) (left : ℕ) (c : Command) where
  pub with_either : (contents_with m left c ≡ m)
      ⊎ ((is_accepted m c ≡ true) × (contents_with m left c ≡ (step m c).contents))
  with_either = by_test (is_accepted m c) (nat_lt 0 left)
    where
      by_test : (a b : Bool) → ((if a && b then (step m c).contents else m) ≡ m)
          ⊎ ((a ≡ true) × ((if a && b then (step m c).contents else m) ≡ (step m c).contents))
      by_test true true = inr (refl, refl)
      by_test true false = inl refl
      by_test false b = inl refl

  pub with_memory : (cells elements : ℕ) → IsMemory cells elements m → IsMemory cells elements (contents_with m left c)
  with_memory cells elements is = ⊎_elim
      (λ same. subst (λ (n : Contents). IsMemory cells elements n) (sym same) is)
      (λ on. subst (λ (n : Contents). IsMemory cells elements n) (sym on.1) (step-memory cells elements m c is))
      with_either

-- what a confirmation leaves of an entry: all, or nothing
pub confirm_leaves : (m : Contents) (element upto : ℕ) (who : Waiter)
    → (kept_for (step m (Confirm element upto)).contents.windows who ≡ kept_for m.windows who)
    ⊎ (kept_for (step m (Confirm element upto)).contents.windows who ≡ None)
confirm_leaves m element upto who = by_result (confirm_window upto (slice_get m.windows element)) refl
  where
    by_test : (now : Window) → Confirms m element upto now → (t : Bool) → (who.element == element) ≡ t
        → (cond t (kept_under now who.number) (kept_for m.windows who) ≡ kept_for m.windows who)
        ⊎ (cond t (kept_under now who.number) (kept_for m.windows who) ≡ None)
    by_test now c false e = inl refl
    by_test now c true e = ⊎_elim
        (λ below. inr (kept_under-below now who.number
        (omega (arith, ap (λ (w : Window). w.base) c.is.is))))
        (λ from. inl (ap (λ (w : Window). kept_under w who.number) c.is.is
        ∙ confirmed_stays c.window upto who.number from
        ∙ sym (kept_for-here m.windows element c.window who c.there (eq_by_test who.element element e))))
        (below_or_from who.number upto)

    by_result : (o : Result Window Refusal) → confirm_window upto (slice_get m.windows element) ≡ o
        → (kept_for (step_confirm m element o).contents.windows who ≡ kept_for m.windows who)
        ⊎ (kept_for (step_confirm m element o).contents.windows who ≡ None)
    by_result (Err refusal) e = inl refl
    by_result (Ok now) e =
        let c = confirm-confirms m element upto now e in
        let is = kept_for-set m.windows element c.window now who c.there in
        ⊎_elim (λ same. inl (is ∙ same)) (λ none. inr (is ∙ none)) (by_test now c (who.element == element) refl)
