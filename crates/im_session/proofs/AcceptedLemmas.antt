-- Commands that are each accepted in their turn, said in two ways.
use Rattle.std.proofs.Common.{◌≡◌, ◌≤◌, Bool, true, false, List, [], ◌∷◌, length, if◌then◌else◌, Some, None, refl, ap}
use Rattle.std.proofs.Common.{arith}
use Rattle.im_types.specs.Types.{Command, Contents, step, is_accepted, after, accepted, accept_each}

pub one_accepted : (m : Contents) (c : Command) → is_accepted m c ≡ true → accepted m (c ∷ []) ≡ c ∷ []
one_accepted m c e = ap (λ (b : Bool). if b then c ∷ [] else []) e

pub accepted_each : (m : Contents) (l : List Command) (x : Contents) → accept_each m l ≡ Some x → accepted m l ≡ l
accepted_each m [] x is = refl
accepted_each m (c ∷ l) x is = by_test (is_accepted m c) is (λ rest. accepted_each (step m c).contents l x rest)
  where
    by_test : (b : Bool) → (if b then accept_each (step m c).contents l else None) ≡ Some x
        → (accept_each (step m c).contents l ≡ Some x → accepted (step m c).contents l ≡ l)
        → (if b then c ∷ accepted (step m c).contents l else accepted (step m c).contents l) ≡ c ∷ l
    by_test true is more = ap (λ (k : List Command). c ∷ k) (more is)
    by_test false is more = absurd (cc)

few_accepted : (m : Contents) (l : List Command) → length (accepted m l) ≤ length l
few_accepted m [] = omega arith
few_accepted m (c ∷ l) = by_test (is_accepted m c) (few_accepted (step m c).contents l)
  where
    by_test : (b : Bool) → length (accepted (step m c).contents l) ≤ length l
        → length (if b then c ∷ accepted (step m c).contents l else accepted (step m c).contents l) ≤ length (c ∷ l)
    by_test true few = omega (arith, few)
    by_test false few = omega (arith, few)

pub each_accepted : (m : Contents) (l : List Command) → accepted m l ≡ l → accept_each m l ≡ Some (after m l)
each_accepted m [] is = refl
each_accepted m (c ∷ l) is = by_test (is_accepted m c) is (λ rest. each_accepted (step m c).contents l rest)
  where
    same_rest : (k : List Command) → c ∷ k ≡ c ∷ l → k ≡ l
    same_rest k is = cc

    by_test : (b : Bool)
        → (if b then c ∷ accepted (step m c).contents l else accepted (step m c).contents l) ≡ c ∷ l
        → (accepted (step m c).contents l ≡ l → accept_each (step m c).contents l ≡ Some (after (step m c).contents l))
        → (if b then accept_each (step m c).contents l else None) ≡ Some (after (step m c).contents l)
    by_test true is more = more (same_rest (accepted (step m c).contents l) is)
    by_test false is more =
        let few = few_accepted (step m c).contents l in let many = ap length is in absurd (omega (arith, few, many))
