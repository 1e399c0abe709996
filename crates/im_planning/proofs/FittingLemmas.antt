-- The tests of a plan on a memory decide whether it fits.
use Rattle.std.proofs.Common.{◌≡◌, ℕ, zero, suc, ◌≤◌, Bool, true, false, cond, ◌↔◌, List, [], ◌∷◌, is_some, IsTrue}
use Rattle.std.proofs.Common.{nat_lt, slice_get, Some, None, Option, sym, refl, ap, ◌∙◌, subst, arith}
use Rattle.std.proofs.lemmas.{Bool.Decides.nat_tests, Option.none-some, Option.same_Some}
use Rattle.im_types.specs.Types.{Kind, I, M, Request, LAST, CellState, Empty, Full, Clashed, Held, Window, Contents}
use Rattle.im_types.specs.Types.{held_at, address_of, same_kind, next_number, bounds_of, bounds, FitsPlan}
use Rattle.im_laws.proofs.Tests.{true_false}
use Rattle.im_planning.specs.Fitting.{all_fit, cell_fits, is_empty, number_fits, request_fits}

-- one request
pub record Fits (m : Contents) (r : Request) : Type 0 where
  pub element : is_some (slice_get m.windows r.element) ≡ true
  pub number : (w : Window) → slice_get m.windows r.element ≡ Some w → (next_number w ≤ r.number) × (r.number ≤ LAST)
  pub empty : (held : Held) → held_at m.cells (address_of r.op) ≡ Some held → held.block.kind ≡ I → held.state
      ≡ Empty []

number-is : (m : Contents) (r : Request) → number_fits r.number (bounds m.windows r.element) ≡ true
    → (is_some (slice_get m.windows r.element) ≡ true)
    × ((w : Window) → slice_get m.windows r.element ≡ Some w → (next_number w ≤ r.number) × (r.number ≤ LAST))
number-is m r e = by_window (slice_get m.windows r.element) e
  where
    by_tests : (w : Window) (t : Bool) → nat_lt r.number (next_number w) ≡ t → (u : Bool) → nat_lt LAST r.number ≡ u
        → cond t false (cond u false true) ≡ true → (next_number w ≤ r.number) × (r.number ≤ LAST)
    by_tests w false t false u e = (grind (arith, nat_tests), grind (arith, nat_tests))
    by_tests w false t true u e = absurd (true_false (sym e))
    by_tests w true t u v e = absurd (true_false (sym e))

    by_window : (o : Option Window) → number_fits r.number (bounds_of o) ≡ true
        → (is_some o ≡ true) × ((w : Window) → o ≡ Some w → (next_number w ≤ r.number) × (r.number ≤ LAST))
    by_window None e = absurd (true_false (sym e))
    by_window (Some w) e = (
      refl,
      λ v same. subst (λ (w : Window). (next_number w ≤ r.number) × (r.number ≤ LAST)) (same_Some w v same)
          (by_tests w (nat_lt r.number (next_number w)) refl (nat_lt LAST r.number) refl e),
    )

is-number : (m : Contents) (r : Request) → Fits m r → number_fits r.number (bounds m.windows r.element) ≡ true
is-number m r f = by_window (slice_get m.windows r.element) f.element f.number
  where
    by_window : (o : Option Window) → is_some o ≡ true
        → ((w : Window) → o ≡ Some w → (next_number w ≤ r.number) × (r.number ≤ LAST))
        → number_fits r.number (bounds_of o) ≡ true
    by_window None some number = absurd (true_false (sym some))
    by_window (Some w) some number =
        let n = number w refl in
        let low = n.0 in
        let last = n.1 in
        let t : nat_lt r.number (next_number w) ≡ false = grind (arith, nat_tests) in
        let u : nat_lt LAST r.number ≡ false = grind (arith, nat_tests) in
        ap (λ t. cond t false (cond (nat_lt LAST r.number) false true)) t ∙ ap (λ u. cond u false true) u

empty-is : (s : CellState) → is_empty s ≡ true → s ≡ Empty []
empty-is (Empty []) e = refl
empty-is (Empty (w ∷ ws)) e = absurd (true_false (sym e))
empty-is (Full v) e = absurd (true_false (sym e))
empty-is (Clashed v) e = absurd (true_false (sym e))

cell-is : (o : Option Held) → cell_fits o ≡ true → (held : Held) → o ≡ Some held → held.block.kind ≡ I → held.state
    ≡ Empty []
cell-is None e held at kind = absurd (none-some held at)
cell-is (Some other) e held at kind =
    let same = same_Some other held at in
    subst (λ (h : Held). h.state ≡ Empty []) same
    (empty-is other.state
    (sym (ap (λ k. cond (same_kind I k) (is_empty other.state) true)
    (ap (λ (h : Held). h.block.kind) same ∙ kind)) ∙ e))

is-cell : (o : Option Held) → ((held : Held) → o ≡ Some held → held.block.kind ≡ I → held.state ≡ Empty [])
    → cell_fits o ≡ true
is-cell None empty = refl
is-cell (Some held) empty = by_kind held.block.kind refl
  where
    by_kind : (k : Kind) → held.block.kind ≡ k → cond (same_kind I k) (is_empty held.state) true ≡ true
    by_kind I k = ap is_empty (empty held refl k)
    by_kind M k = refl

request-is : (m : Contents) (r : Request) → request_fits m r ≡ true → Fits m r
request-is m r e = by_test (number_fits r.number (bounds m.windows r.element)) refl e
  where
    by_test : (t : Bool) → number_fits r.number (bounds m.windows r.element) ≡ t
        → cond t (cell_fits (held_at m.cells (address_of r.op))) false ≡ true → Fits m r
    by_test true t e = let n = number-is m r t in record {
      element = n.0;
      number = n.1;
      empty = cell-is
          (held_at m.cells (address_of r.op)) e;
    }
    by_test false t e = absurd (true_false (sym e))

is-request : (m : Contents) (r : Request) → Fits m r → request_fits m r ≡ true
is-request m r f = ap (λ t. cond t (cell_fits (held_at m.cells (address_of r.op))) false) (is-number m r f)
    ∙ is-cell (held_at m.cells (address_of r.op)) f.empty

all-is : (m : Contents) (plan : List Request) → all_fit m plan ≡ true → (i : ℕ) (r : Request) → slice_get plan i
    ≡ Some r → Fits m r
all-is m [] e i r at = absurd (none-some r at)
all-is m (first ∷ plan) e i r at = by_test (request_fits m first) refl e (λ rest. all-is m plan rest) i at
  where
    by_test : (t : Bool) → request_fits m first ≡ t → cond t (all_fit m plan) false ≡ true
        → (all_fit m plan ≡ true → (i : ℕ) (r : Request) → slice_get plan i ≡ Some r → Fits m r)
        → (i : ℕ) → slice_get (first ∷ plan) i ≡ Some r → Fits m r
    by_test false t e later i at = absurd (true_false (sym e))
    by_test true t e later zero at = subst (Fits m) (same_Some first r at) (request-is m first t)
    by_test true t e later (suc i) at = later e i r at

is-all : (m : Contents) (plan : List Request) → ((i : ℕ) (r : Request) → slice_get plan i ≡ Some r → Fits m r)
    → all_fit m plan ≡ true
is-all m [] all = refl
is-all m (first ∷ plan) all = ap (λ t. cond t (all_fit m plan) false) (is-request m first (all 0 first refl))
    ∙ is-all m plan (λ i r at. all (suc i) r at)

pub plan_fits : (m : Contents) (plan : List Request) → IsTrue (all_fit m plan) ↔ FitsPlan m plan
plan_fits m plan = (
  λ e. let all = all-is m plan e in record {
    element = λ i r at. (all i r at).element;
    number = λ i r w at there. (all i r at).number w there;
    empty = λ i r held at there kind. (all i r at).empty held there kind;
  },
  λ f. is-all m plan (λ i r at. record { element = f.element i r at; number = λ w there. f.number i r w at there; empty = λ held there kind. f.empty i r held at there kind }),
)
