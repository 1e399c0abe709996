-- The test of two operations is passed exactly where they are one.
use Rattle.std.proofs.Common.{◌≡◌, Bool, true, ◌&&◌, ◌==◌, refl, ap, ◌∙◌}
use Rattle.im_types.specs.Types.{Kind, Op, I, M, Alloc, Release, Reset, Fetch, Store, Take, Put, same_kind, same_op}
use Rattle.im_laws.proofs.Tests.{and_both, eq_by_test, test-self}

pub same_kind-equal : (kind other : Kind) → same_kind kind other ≡ true → kind ≡ other
same_kind-equal I I e = refl
same_kind-equal I M e = absurd (cc)
same_kind-equal M I e = absurd (cc)
same_kind-equal M M e = refl

pub same_kind-self : (kind : Kind) → same_kind kind kind ≡ true
same_kind-self I = refl
same_kind-self M = refl

both_true : (a b : Bool) → a ≡ true → b ≡ true → (a && b) ≡ true
both_true a b p q = ap (λ a. a && b) p ∙ q

pub same_op-self : (op : Op) → same_op op op ≡ true
same_op-self (Alloc kind n) = both_true (same_kind kind kind) (n == n) (same_kind-self kind) (test-self n)
same_op-self (Release a) = test-self a
same_op-self (Reset a) = test-self a
same_op-self (Fetch a) = test-self a
same_op-self (Store a v) = both_true (a == a) (v == v) (test-self a) (test-self v)
same_op-self (Take a) = test-self a
same_op-self (Put a v) = both_true (a == a) (v == v) (test-self a) (test-self v)

pub same_op-equal : (op other : Op) → same_op op other ≡ true → op ≡ other
same_op-equal (Alloc kind n) (Alloc kind' n') e =
    let parts = and_both (same_kind kind kind') (n == n') e in
    ap (λ k. Alloc k n) (same_kind-equal kind kind' parts.0) ∙ ap (Alloc kind') (eq_by_test n n' parts.1)
same_op-equal (Release a) (Release b) e = ap Release (eq_by_test a b e)
same_op-equal (Reset a) (Reset b) e = ap Reset (eq_by_test a b e)
same_op-equal (Fetch a) (Fetch b) e = ap Fetch (eq_by_test a b e)
same_op-equal (Store a v) (Store b w) e =
    let parts = and_both (a == b) (v == w) e in
    ap (λ a. Store a v) (eq_by_test a b parts.0) ∙ ap (Store b) (eq_by_test v w parts.1)
same_op-equal (Take a) (Take b) e = ap Take (eq_by_test a b e)
same_op-equal (Put a v) (Put b w) e =
    let parts = and_both (a == b) (v == w) e in
    ap (λ a. Put a v) (eq_by_test a b parts.0) ∙ ap (Put b) (eq_by_test v w parts.1)
same_op-equal op other e = absurd (cc)
