-- How often a node stands in chains, by its places there.
use Rattle.std.proofs.Common.{◌≡◌, ℕ, zero, suc, ◌+◌, ◌<◌, ◌≤◌, Bool, true, false, List, [], ◌∷◌, length, get_or, ◌==◌}
use Rattle.std.proofs.Common.{refl, ap, ⊎_elim, arith}
use Rattle.std.proofs.lemmas.Bool.Decides.{nat_tests}
use Rattle.im_types.specs.Types.{bit, uses, all_uses}
use Rattle.im_laws.proofs.Tests.{true_or_false, zero_or_more}

-- a place of a node in a chain
pub record IsIn (n : ℕ) (chain : List ℕ) : Type 0 where
  pub place : ℕ
  pub inside : place < length chain
  pub is : get_or chain place 0 ≡ n

-- a place of a node in chains
pub record IsAt (n : ℕ) (chains : List (List ℕ)) : Type 0 where
  pub chain : ℕ
  pub place : ℕ
  pub within : chain < length chains
  pub inside : place < length (get_or chains chain [])
  pub is : get_or (get_or chains chain []) place 0 ≡ n

uses-here : (n x : ℕ) (chain : List ℕ) (b : Bool) → (n == x) ≡ b → uses n (x ∷ chain) ≡ bit b + uses n chain
uses-here n x chain b e = ap (λ b. bit b + uses n chain) e

pub uses-from : (n : ℕ) (chain : List ℕ) → IsIn n chain → 1 ≤ uses n chain
uses-from n chain h = by_place chain h.place h.inside h.is
  where
    by_place : (chain : List ℕ) (i : ℕ) → i < length chain → get_or chain i 0 ≡ n → 1 ≤ uses n chain
    by_place [] i lt e = absurd (omega arith)
    by_place (x ∷ chain) zero lt e = let t : (n == x)
        ≡ true = grind (arith, nat_tests) in omega (arith, uses-here n x chain true t)
    by_place (x ∷ chain) (suc i) lt e = let h : 1 ≤ uses n chain = by_place chain i (omega arith) e in omega
        (arith, uses-here n x chain (n == x) refl)

pub uses-in : (n : ℕ) (chain : List ℕ) → 1 ≤ uses n chain → IsIn n chain
uses-in n [] h = let k : 1 ≤ 0 = h in absurd (omega arith)
uses-in n (x ∷ chain) h = ⊎_elim
    (λ t. let e : x ≡ n = grind (arith, nat_tests) in record { place = 0; inside = omega arith; is = e })
    (λ t. let later = uses-in n chain
    (omega (arith, h, uses-here n x chain false t)) in record {
      place = suc later.place;
      inside = omega
          (arith, later.inside);
      is = later.is;
    })
    (true_or_false (n == x))

pub uses-once : (n : ℕ) (chain : List ℕ)
    → ((i j : ℕ) → i < length chain → j < length chain → get_or chain i 0 ≡ n → get_or chain j 0 ≡ n → i ≡ j)
    → uses n chain ≤ 1
uses-once n [] one = let k : 0 ≤ 1 = omega arith in k
uses-once n (x ∷ chain) one =
    let rest = uses-once n chain
    (λ i j li lj ei ej. let h = one (suc i) (suc j) (omega arith) (omega arith) ei ej in omega arith) in
    ⊎_elim
    (λ t. ⊎_elim
    (λ none. omega (arith, uses-here n x chain true t, none))
    (λ some.
    let later = uses-in n chain some in
    let e : x ≡ n = grind (arith, nat_tests) in
    let clash = one 0 (suc later.place) (omega arith) (omega (arith, later.inside)) e later.is in
    absurd (omega arith))
    (zero_or_more (uses n chain)))
    (λ t. omega (arith, uses-here n x chain false t, rest))
    (true_or_false (n == x))

pub all_uses-from : (n : ℕ) (chains : List (List ℕ)) → IsAt n chains → 1 ≤ all_uses n chains
all_uses-from n chains h = by_chain chains h.chain h.within h.inside h.is
  where
    by_chain : (chains : List (List ℕ)) (a : ℕ) → a < length chains → h.place < length (get_or chains a [])
        → get_or (get_or chains a []) h.place 0 ≡ n → 1 ≤ all_uses n chains
    by_chain [] a la li e = absurd (omega arith)
    by_chain (chain ∷ chains) zero la li e = let some = uses-from n chain
        (record { place = h.place; inside = li; is = e }) in omega (arith, some)
    by_chain (chain ∷ chains) (suc a) la li e = let some = by_chain chains a (omega arith) li e in omega (arith, some)

pub all_uses-at : (n : ℕ) (chains : List (List ℕ)) → 1 ≤ all_uses n chains → IsAt n chains
all_uses-at n [] h = let k : 1 ≤ 0 = h in absurd (omega arith)
all_uses-at n (chain ∷ chains) h = ⊎_elim
    (λ none.
    let sum : 1 ≤ uses n chain + all_uses n chains = h in
    let later = all_uses-at n chains (omega (arith, none, sum)) in
    record {
      chain = suc later.chain;
      place = later.place;
      within = omega
          (arith, later.within);
      inside = later.inside;
      is = later.is;
    })
    (λ some. let here = uses-in n chain some in record { chain = 0; place = here.place; within = omega arith; inside = here.inside; is = here.is })
    (zero_or_more (uses n chain))

-- no two places of it
abbrev pub IsOnce : ℕ → List (List ℕ) → Type 0
IsOnce n chains =
    (a b i j : ℕ) → a < length chains → b < length chains → i < length (get_or chains a [])
    → j < length (get_or chains b [])
    → get_or (get_or chains a []) i 0 ≡ n → get_or (get_or chains b []) j 0 ≡ n → (a ≡ b) × (i ≡ j)

pub all_uses-once : (n : ℕ) (chains : List (List ℕ)) → IsOnce n chains → all_uses n chains ≤ 1
all_uses-once n [] one = let k : 0 ≤ 1 = omega arith in k
all_uses-once n (chain ∷ chains) one =
    let rest = all_uses-once n chains
    (λ a b i j la lb li lj ea eb. let h = one (suc a) (suc b) i j (omega arith)
    (omega arith) li lj ea eb in let k = h.0 in (omega arith, h.1)) in
    let here = uses-once n chain (λ i j li lj ei ej. (one 0 0 i j (omega arith) (omega arith) li lj ei ej).1) in
    ⊎_elim
    (λ none. let k : uses n chain + all_uses n chains ≤ 1 = omega (arith, none, rest) in k)
    (λ some. ⊎_elim
    (λ none. let k : uses n chain + all_uses n chains ≤ 1 = omega (arith, none, here) in k)
    (λ more.
    let i = uses-in n chain some in
    let j = all_uses-at n chains more in
    let clash = (one 0 (suc j.chain) i.place j.place (omega arith)
    (omega (arith, j.within)) i.inside j.inside i.is j.is).0 in
    absurd (omega arith))
    (zero_or_more (all_uses n chains)))
    (zero_or_more (uses n chain))
