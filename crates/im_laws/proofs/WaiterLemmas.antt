-- Where a request waits, by the waiting agreement.
use Rattle.std.proofs.Common.{◌≡◌, ℕ, ◌≤◌, true, ◌&&◌, Some, None, Option, sym, refl, ap, ◌∙◌, arith}
use Rattle.im_types.specs.Types.{Entry, Waiter, Kept, Waiting, Answered, Held, Contents, held_at, waiters_at, kept_for}
use Rattle.im_types.specs.Types.{times, awaiting, waits_in, address_of, WaitingAgrees, same_op, is_waiting_entry}
use Rattle.im_types.specs.Types.{is_waiting}
use Rattle.im_laws.proofs.AgreementLemmas.{address_of-awaiting, awaiting_self, one_if, same_op-awaiting}
use Rattle.im_laws.{proofs.StepAgrees.one_if-most, proofs.StepAgrees.one_if-true, specs.Agreement.WaitsAt}
use Rattle.im_laws.proofs.Tests.{and_both, some_same, true_false}

pub waiting_only : (entry : Entry) → is_waiting_entry entry ≡ true → entry ≡ Waiting
waiting_only Waiting e = refl
waiting_only (Answered reply) e = absurd (true_false (sym e))

waits_in-WaitsAt : (m : Contents) (who : Waiter) (a : ℕ) → waits_in a (held_at m.cells a) (kept_for m.windows who)
    ≡ true → WaitsAt m who a
waits_in-WaitsAt m who a e = by_held (held_at m.cells a) refl (kept_for m.windows who) refl e
  where
    by_held : (o : Option Held) → held_at m.cells a ≡ o → (k : Option Kept) → kept_for m.windows who ≡ k
        → waits_in a o k ≡ true → WaitsAt m who a
    by_held None at k is e = absurd (true_false (sym e))
    by_held (Some held) at None is e = absurd (true_false (sym e))
    by_held (Some held) at (Some k) is e =
        let both = and_both (same_op (awaiting held.block.kind a) k.op) (is_waiting k) e in
        let op = same_op-awaiting held.block.kind a k.op both.0 in
        let waits = waiting_only k.entry both.1 in
        record { held = held; there = at; waits = is ∙ ap Some (λ i. record { op = op i; entry = waits i }) }

WaitsAt-waits_in : (m : Contents) (who : Waiter) (a : ℕ) → WaitsAt m who a
    → waits_in a (held_at m.cells a) (kept_for m.windows who) ≡ true
WaitsAt-waits_in m who a w =
    ap (λ o. waits_in a o (kept_for m.windows who)) w.there ∙ ap (waits_in a (Some w.held)) w.waits
    ∙ ap (λ b. b && true) (awaiting_self w.held.block.kind a)

pub listed-WaitsAt : (m : Contents) → WaitingAgrees m → (who : Waiter) (a : ℕ) → 1 ≤ times who (waiters_at m.cells a)
    → WaitsAt m who a
listed-WaitsAt m agrees who a some =
    let listed = agrees.listed who a in
    waits_in-WaitsAt m who a (one_if-true (waits_in a (held_at m.cells a) (kept_for m.windows who)) (omega arith))

pub WaitsAt-listed : (m : Contents) → WaitingAgrees m → (who : Waiter) (a : ℕ) → WaitsAt m who a
    → 1 ≤ times who (waiters_at m.cells a)
WaitsAt-listed m agrees who a w =
    let listed : times who (waiters_at m.cells a) ≡ 1 = agrees.listed who a ∙ ap one_if (WaitsAt-waits_in m who a w) in
    omega arith

pub listed_once : (m : Contents) → WaitingAgrees m → (who : Waiter) (a : ℕ) → times who (waiters_at m.cells a) ≤ 1
listed_once m agrees who a =
    let listed = agrees.listed who a in
    let most = one_if-most (waits_in a (held_at m.cells a) (kept_for m.windows who)) in
    omega arith

pub WaitsAt-one : (m : Contents) (who : Waiter) (a b : ℕ) → WaitsAt m who a → WaitsAt m who b → a ≡ b
WaitsAt-one m who a b at_a at_b =
    let same = some_same _ _ (sym at_a.waits ∙ at_b.waits) in
    sym (address_of-awaiting at_a.held.block.kind a) ∙ ap (λ (k : Kept). address_of k.op) same
    ∙ address_of-awaiting at_b.held.block.kind b

pub waiting-WaitsAt : (m : Contents) → WaitingAgrees m → (who : Waiter) (k : Kept) → kept_for m.windows who ≡ Some k
    → is_waiting k ≡ true
    → WaitsAt m who (address_of k.op)
waiting-WaitsAt m agrees who k is waits =
    waits_in-WaitsAt m who (address_of k.op)
    (ap (waits_in (address_of k.op) (held_at m.cells (address_of k.op))) is ∙ agrees.somewhere who k is waits)
