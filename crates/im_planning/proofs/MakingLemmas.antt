-- The index of a plan decides what the plan has, and what makes one.
use Rattle.std.proofs.Common.{◌≡◌, ℕ, zero, suc, Bool, true, false, cond, ◌&&◌, ◌↔◌, List, [], ◌∷◌, drop, is_some}
use Rattle.std.proofs.Common.{IsTrue, ◌==◌, slice_get, Some, None, Option, sym, refl, ap, ◌∙◌, arith}
use Rattle.std.proofs.lemmas.Option.{none-some, same_Some}
use Rattle.im_types.specs.Types.{Op, Request, same_op, asker, stored_by, planned_value, is_planned, IsPlan}
use Rattle.im_laws.proofs.OpLemmas.{same_op-equal, same_op-self}
use Rattle.im_laws.proofs.Tests.{and_both, eq_by_test, test-self, true_false}
use Rattle.im_plans.{proofs.PlanLemmas.planned_value-stored, proofs.PlanLemmas.stored-by_store, specs.Runs.IsInPlan}
use Rattle.im_planning.specs.{Begins.StandsBefore, Making.has_key, Making.is_op, Making.Key, Making.op_under}

abbrev pub key_of : Request → Key
key_of r = (r.element, r.number)

-- keys
key-own : (r : Request) → has_key (key_of r) r ≡ true
key-own r = ap (λ t. t && (r.number == r.number)) (test-self r.element) ∙ test-self r.number

key-same : (r s : Request) → has_key (key_of r) s ≡ true → asker r ≡ asker s
key-same r s e =
    let both = and_both (r.element == s.element) (r.number == s.number) e in
    let element = eq_by_test r.element s.element both.0 in
    let number = eq_by_test r.number s.number both.1 in
    λ i. record { element = element i; number = number i }

same-key : (r s : Request) → asker r ≡ asker s → has_key (key_of r) s ≡ true
same-key r s e =
    ap (λ n. (r.element == n) && (r.number == s.number)) (sym (ap (λ w. w.element) e))
    ∙ ap (λ t. t && (r.number == s.number)) (test-self r.element)
    ∙ ap (λ n. r.number == n) (sym (ap (λ w. w.number) e)) ∙ test-self r.number

-- what is found stands there
pub found : (key : Key) (op : Op) (plan : List Request) → op_under key plan ≡ Some op
    → (i : ℕ) × (s : Request) × (slice_get plan i ≡ Some s) × (has_key key s ≡ true) × (s.op ≡ op)
found key op [] e = absurd (none-some op e)
found key op (s ∷ plan) e = by_test (has_key key s) refl e (found key op plan)
  where
    by_test : (t : Bool) → has_key key s ≡ t → cond t (Some s.op) (op_under key plan) ≡ Some op
        → (op_under key plan ≡ Some op → (i : ℕ) × (q : Request) × (slice_get plan i ≡ Some q)
        × (has_key key q ≡ true) × (q.op ≡ op))
        → (i : ℕ) × (q : Request) × (slice_get (s ∷ plan) i ≡ Some q) × (has_key key q ≡ true) × (q.op ≡ op)
    by_test true t e later = (0, s, refl, t, same_Some s.op op e)
    by_test false t e later = let f = later e in (suc f.0, f.1, f.2, f.3, f.4)

-- what stands there is found, or something before it
pub some_found : (key : Key) (plan : List Request) (i : ℕ) (s : Request) → slice_get plan i ≡ Some s → has_key key s
    ≡ true → op_under key plan ≡ None → ⊥
some_found key [] i s at own none = none-some s at
some_found key (q ∷ plan) i s at own none = by_test (has_key key q) refl none i at
    (λ i at none. some_found key plan i s at own none)
  where
    by_test : (t : Bool) → has_key key q ≡ t → cond t (Some q.op) (op_under key plan) ≡ None → (i : ℕ)
        → slice_get (q ∷ plan) i ≡ Some s
        → ((i : ℕ) → slice_get plan i ≡ Some s → op_under key plan ≡ None → ⊥) → ⊥
    by_test true t none i at later = cc
    by_test false t none zero at later = true_false (sym own ∙ ap (has_key key) (sym (same_Some q s at)) ∙ t)
    by_test false t none (suc i) at later = later i at none

pub stored_there : (a : ℕ) (plan : List Request) (i : ℕ) (s : Request) → slice_get plan i ≡ Some s
    → is_some (stored_by a s.op) ≡ true → planned_value a plan ≡ None → ⊥
stored_there a [] i s at e none = none-some s at
stored_there a (q ∷ plan) i s at e none = by_first (stored_by a q.op) refl i at
    (λ i at none. stored_there a plan i s at e none)
  where
    by_first : (o : Option ℕ) → stored_by a q.op ≡ o → (i : ℕ) → slice_get (q ∷ plan) i ≡ Some s
        → ((i : ℕ) → slice_get plan i ≡ Some s → planned_value a plan ≡ None → ⊥) → ⊥
    by_first (Some v) o i at later = none-some v (sym none ∙ here v o)
      where
        here : (v : ℕ) → stored_by a q.op ≡ Some v → planned_value a (q ∷ plan) ≡ Some v
        here v o = rw o refl
    by_first None o zero at later = true_false
        (sym e ∙ ap (λ (r : Request). is_some (stored_by a r.op)) (sym (same_Some q s at)) ∙ ap is_some o)
    by_first None o (suc i) at later = later i at (sym (there o) ∙ none)
      where
        there : stored_by a q.op ≡ None → planned_value a (q ∷ plan) ≡ planned_value a plan
        there o = rw o refl

-- a plan with one request more before it
pub cons-plan : (r : Request) (plan : List Request) → StandsBefore r plan → IsPlan plan → IsPlan (r ∷ plan)
cons-plan r plan b is = record { planned = planned; numbered = numbered; stored_once = stored_once }
  where
    planned : (i : ℕ) (q : Request) → slice_get (r ∷ plan) i ≡ Some q → is_planned q.op ≡ true
    planned zero q at = ap (λ (r : Request). is_planned r.op) (sym (same_Some r q at)) ∙ b.planned
    planned (suc i) q at = is.planned i q at

    one_number : (s : Request) (j : ℕ) → slice_get plan j ≡ Some s → asker r ≡ asker s → ⊥
    one_number s j at same = some_found (key_of r) plan j s at (same-key r s same) b.own

    numbered : (i j : ℕ) (q s : Request) → slice_get (r ∷ plan) i ≡ Some q → slice_get (r ∷ plan) j ≡ Some s
        → asker q ≡ asker s → i ≡ j
    numbered zero zero q s x y same = refl
    numbered zero (suc j) q s x y same = absurd (one_number s j y (ap asker (same_Some r q x) ∙ same))
    numbered (suc i) zero q s x y same = absurd (one_number q i x (ap asker (same_Some r s y) ∙ sym same))
    numbered (suc i) (suc j) q s x y same = ap suc (is.numbered i j q s x y same)

    one_store : (a : ℕ) (s : Request) (j : ℕ) → slice_get plan j ≡ Some s → is_some (stored_by a r.op) ≡ true
        → is_some (stored_by a s.op) ≡ true → ⊥
    one_store a s j at e f = stored_there a plan j s at f (b.alone a e)

    stored_once : (i j a : ℕ) (q s : Request) → slice_get (r ∷ plan) i ≡ Some q → slice_get (r ∷ plan) j ≡ Some s
        → is_some (stored_by a q.op) ≡ true → is_some (stored_by a s.op) ≡ true → i ≡ j
    stored_once zero zero a q s x y e f = refl
    stored_once zero (suc j) a q s x y e f = absurd
        (one_store a s j y (ap (λ (r : Request). is_some (stored_by a r.op)) (same_Some r q x) ∙ e) f)
    stored_once (suc i) zero a q s x y e f = absurd
        (one_store a q i x (ap (λ (r : Request). is_some (stored_by a r.op)) (same_Some r s y) ∙ f) e)
    stored_once (suc i) (suc j) a q s x y e f = ap suc (is.stored_once i j a q s x y e f)

-- what stands behind a plan's first request
same_suc : (i j : ℕ) → suc i ≡ suc j → i ≡ j
same_suc i j e = omega arith

zero_suc : (i : ℕ) → 0 ≡ suc i → ⊥
zero_suc i e = omega arith

pub rest-plan : (r : Request) (plan : List Request) → IsPlan (r ∷ plan) → IsPlan plan
rest-plan r plan is = record {
  planned = λ i q at. is.planned (suc i) q at;
  numbered = λ i j q s x y same. same_suc i j (is.numbered (suc i) (suc j) q s x y same);
  stored_once = λ i j a q s x y e f. same_suc i j (is.stored_once (suc i) (suc j) a q s x y e f);
}

pub drop-plan : (i : ℕ) (plan : List Request) → IsPlan plan → IsPlan (drop i plan)
drop-plan zero plan is = is
drop-plan (suc i) [] is = is
drop-plan (suc i) (r ∷ plan) is = drop-plan i plan (rest-plan r plan is)

-- the first request of a plan begins it
pub plan-begins : (r : Request) (plan : List Request) → IsPlan (r ∷ plan) → StandsBefore r plan
plan-begins r plan is = record {
  planned = is.planned 0 r refl;
  own = own
      (op_under (key_of r) plan) refl;
  alone = λ a e. alone a e (planned_value a plan) refl;
}
  where
    own : (o : Option Op) → op_under (key_of r) plan ≡ o → op_under (key_of r) plan ≡ None
    own None e = e
    own (Some op) e = let f = found (key_of r) op plan e in absurd
        (zero_suc f.0 (is.numbered 0 (suc f.0) r f.1 refl f.2 (key-same r f.1 f.3)))

    alone : (a : ℕ) → is_some (stored_by a r.op) ≡ true → (o : Option ℕ) → planned_value a plan ≡ o
        → planned_value a plan ≡ None
    alone a e None is_none = is_none
    alone a e (Some v) value =
        let s = planned_value-stored plan a v value in absurd
        (zero_suc s.in_plan.0 (is.stored_once 0 (suc s.in_plan.0) a r s.request refl s.in_plan.1 e
        (ap is_some (stored-by_store a v s.request.op s.op))))

-- a plan has a request exactly where it is found under its key
pub in_plan : (r : Request) (plan : List Request) → IsPlan plan
    → IsTrue (is_op r.op (op_under (key_of r) plan)) ↔ IsInPlan plan r
in_plan r plan is = (λ e. in-plan (op_under (key_of r) plan) refl e, λ h. plan-in (op_under (key_of r) plan) refl h)
  where
    in-plan : (o : Option Op) → op_under (key_of r) plan ≡ o → IsTrue (is_op r.op o) → IsInPlan plan r
    in-plan None at e = absurd (true_false (sym e))
    in-plan (Some op) at e =
        let f = found (key_of r) op plan at in
        let same = key-same r f.1 f.3 in
        let ops = f.4 ∙ same_op-equal op r.op e in
        (f.0, f.2 ∙ ap Some (λ i. record { element = (sym same i).element; number = (sym same i).number; op = ops i }))

    plan-in : (o : Option Op) → op_under (key_of r) plan ≡ o → IsInPlan plan r → IsTrue (is_op r.op o)
    plan-in None at h = absurd (some_found (key_of r) plan h.0 r h.1 (key-own r) at)
    plan-in (Some op) at h =
        let f = found (key_of r) op plan at in
        let there = is.numbered f.0 h.0 f.1 r f.2 h.1 (sym (key-same r f.1 f.3)) in
        let one = same_Some f.1 r (sym f.2 ∙ ap (slice_get plan) there ∙ h.1) in
        ap (λ (op : Op). same_op op r.op) (sym f.4 ∙ ap (λ (s : Request). s.op) one) ∙ same_op-self r.op
