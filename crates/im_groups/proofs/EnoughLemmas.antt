-- Members with a place for each: it doesn't matter how many more places there are.
use Rattle.std.proofs.Common.{◌≡◌, ℕ, suc, ◌+◌, ◌-◌, ◌<◌, ◌≤◌, Bool, true, false, ◌&&◌, List, [], ◌∷◌, ◌++◌, length}
use Rattle.std.proofs.Common.{if◌then◌else◌, nat_lt, ◌==◌, Some, None, Err, Result, sym, refl, ap, ◌∙◌, arith}
use Rattle.std.proofs.lemmas.Bool.Decides.{nat_tests}
use Rattle.im_types.specs.Types.{Command, Outcome, Refusal, JournalFull, Contents, step, is_accepted, after}
use Rattle.im_types.specs.Types.{accept_each}
use Rattle.{im_laws.proofs.Tests.and_both, im_memory.specs.Covering.most_pages}
use Rattle.im_groups.{proofs.WholeLemmas.place_for, specs.Ahead.AreAccepted}
use Rattle.im_groups.specs.Commands.{answer_with, answers_with, command_at, commands_at, contents_after_all}
use Rattle.im_groups.specs.Commands.{contents_with, most_pages_at, most_pages_with, places_behind, takes_at}
use Rattle.im_groups.specs.Commands.{takes_place}

no_end : (l : ℕ) → 0 < l → (l == 0) ≡ false
no_end l some = grind (arith, nat_tests)

-- the same of both numbers of places
same_takes : (m : Contents) (k l : ℕ) (c : Command) → 0 < k → 0 < l → takes_place m k c ≡ takes_place m l c
same_takes m k l c some_k some_l = ap (λ (b : Bool). is_accepted m c && b)
    (place_for k some_k ∙ sym (place_for l some_l))

same_answer : (m : Contents) (k l : ℕ) (c : Command) → 0 < k → 0 < l → answer_with m k c ≡ answer_with m l c
same_answer m k l c some_k some_l = ap
    (λ (b : Bool). if is_accepted m c && b then Err JournalFull else (step m c).answer)
    (no_end k some_k ∙ sym (no_end l some_l))

same_contents : (m : Contents) (k l : ℕ) (c : Command) → 0 < k → 0 < l → contents_with m k c ≡ contents_with m l c
same_contents m k l c some_k some_l = ap (λ (b : Bool). if b then (step m c).contents else m)
    (same_takes m k l c some_k some_l)

-- there are enough for the others
enough_left : (m : Contents) (l n : ℕ) (c : Command) → suc n ≤ l → n ≤ places_behind m l c
enough_left m l n c enough = by_test (takes_place m l c)
  where
    by_test : (b : Bool) → n ≤ (if b then l - 1 else l)
    by_test true = omega (arith, enough)
    by_test false = omega (arith, enough)

-- what members come to is the same with any places, if there is one for each of them
abbrev pub IsSameWith : {X : Type 0} → (Contents → ℕ → List Command → X) → Type 0
IsSameWith f = (m : Contents) (k l : ℕ) (cs : List Command) → length cs ≤ k → length cs ≤ l → f m k cs ≡ f m l cs

module _ {X : Type 0} (f : Contents → ℕ → List Command → X) (one : Contents → ℕ → Command → X → X)
    (ends : (m : Contents) (k l : ℕ) → f m k [] ≡ f m l [])
    (goes : (m : Contents) (k : ℕ) (c : Command) (cs : List Command)
    → f m k (c ∷ cs) ≡ one m k c (f (contents_with m k c) (places_behind m k c) cs))
    (same : (m : Contents) (k l : ℕ) (c : Command) (x : X) → 0 < k → 0 < l → one m k c x ≡ one m l c x) where
  enough : IsSameWith f
  enough m k l [] at_k at_l = ends m k l
  enough m k l (c ∷ cs) at_k at_l =
      let some_k : 0 < k = omega (arith, at_k) in
      let some_l : 0 < l = omega (arith, at_l) in
      goes m k c cs
      ∙ same m k l c (f (contents_with m k c) (places_behind m k c) cs) some_k some_l
      ∙ ap (λ (n : Contents). one m l c (f n (places_behind m k c) cs)) (same_contents m k l c some_k some_l)
      ∙ ap (λ (x : X). one m l c x) (enough (contents_with m l c) (places_behind m k c) (places_behind m l c) cs
      (enough_left m k (length cs) c at_k) (enough_left m l (length cs) c at_l))
      ∙ sym (goes m l c cs)

pub enough-commands : IsSameWith commands_at
enough-commands = enough commands_at (λ m k c x. command_at m k c ++ x) (λ m k l. refl) (λ m k c cs. refl)
    (λ m k l c x some_k some_l. ap (λ (b : Bool). (if b then c ∷ [] else []) ++ x) (same_takes m k l c some_k some_l))

pub enough-takes : IsSameWith takes_at
enough-takes = enough takes_at (λ m k c x. takes_place m k c ∷ x) (λ m k l. refl) (λ m k c cs. refl)
    (λ m k l c x some_k some_l. ap (λ (b : Bool). b ∷ x) (same_takes m k l c some_k some_l))

pub enough-answers : IsSameWith answers_with
enough-answers = enough answers_with (λ m k c x. answer_with m k c ∷ x) (λ m k l. refl) (λ m k c cs. refl)
    (λ m k l c x some_k some_l. ap (λ (a : Result Outcome Refusal). a ∷ x) (same_answer m k l c some_k some_l))

pub enough-contents : IsSameWith contents_after_all
enough-contents = enough contents_after_all (λ m k c x. x) (λ m k l. refl) (λ m k c cs. refl)
    (λ m k l c x some_k some_l. refl)

pub enough-pages : IsSameWith most_pages_with
enough-pages = enough most_pages_with (λ m k c x. most_pages_at m k c + x) (λ m k l. refl) (λ m k c cs. refl)
    (λ m k l c x some_k some_l. ap (λ (b : Bool). (if b then most_pages m c else 0) + x)
    (same_takes m k l c some_k some_l))

-- no more commands than members
pub at_most_members : (m : Contents) (l : ℕ) (cs : List Command) → length (commands_at m l cs) ≤ length cs
at_most_members m l [] = omega arith
at_most_members m l (c ∷ cs) = by_test (takes_place m l c)
    (commands_at (contents_with m l c) (places_behind m l c) cs)
    (at_most_members (contents_with m l c) (places_behind m l c) cs)
  where
    by_test : (b : Bool) (rest : List Command) → length rest ≤ length cs
        → length ((if b then c ∷ [] else []) ++ rest) ≤ suc (length cs)
    by_test true rest few = omega (arith, few)
    by_test false rest few = omega (arith, few)

-- as many commands as members: each is accepted in its turn
pub whole-accepted : (m : Contents) (l : ℕ) (cs : List Command) → length (commands_at m l cs) ≡ length cs
    → AreAccepted m cs
whole-accepted m l [] all = refl
whole-accepted m l (c ∷ cs) all = by_test (takes_place m l c) refl all
    (at_most_members (contents_with m l c) (places_behind m l c) cs)
    (whole-accepted (contents_with m l c) (places_behind m l c) cs)
  where
    rest : List Command
    rest = commands_at (contents_with m l c) (places_behind m l c) cs

    by_test : (b : Bool) → takes_place m l c ≡ b → length ((if b then c ∷ [] else []) ++ rest) ≡ suc (length cs)
        → length rest ≤ length cs
        → (length rest ≡ length cs → AreAccepted (contents_with m l c) cs) → AreAccepted m (c ∷ cs)
    by_test true e many few later =
        let accepted = (and_both (is_accepted m c) (nat_lt 0 l) e).0 in
        let here : contents_with m l c ≡ (step m c).contents = ap (λ (t : Bool). if t then (step m c).contents else m)
        e in
        ap (λ (t : Bool). if t then accept_each (step m c).contents cs else None) accepted
        ∙ ap (λ (n : Contents). accept_each n cs) (sym here)
        ∙ later (omega (arith, many))
        ∙ ap (λ (n : Contents). Some (after n cs)) here
    by_test false e many few later = absurd (omega (arith, many, few))
