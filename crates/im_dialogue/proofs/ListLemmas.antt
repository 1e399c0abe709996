-- Lists of the numbers in a range, or of those that pass a test, and what is said of each. (Own.)
use Rattle.std.proofs.Common.{◌≡◌, ℕ, zero, suc, ◌+◌, Bool, true, false, List, [], ◌∷◌, ◌++◌, length, if◌then◌else◌}
use Rattle.std.proofs.Common.{filter, flat_map, sym, refl, ap, ◌∙◌, append_assoc, append-nil, arith, length-append}
use Rattle.std.proofs.lemmas.{Grind.flat_map-append, List.Elements.filter-append}
use Rattle.std.specs.List.{range_with_len}

-- a range is as long as it has numbers
pub length_range : (a n : ℕ) → length (range_with_len a n) ≡ n
length_range a zero = refl
length_range a (suc n) = ap (λ (k : ℕ). suc k) (length_range (a + 1) n)

-- one number more
range_next : (n a : ℕ) → range_with_len a (suc n) ≡ range_with_len a n ++ (a + n) ∷ []
range_next zero a = let e : a ≡ a + 0 = omega arith in ap (λ (x : ℕ). x ∷ []) e
range_next (suc n) a =
    let e : a + 1 + n ≡ a + suc n = omega arith in
    ap (λ (l : List ℕ). a ∷ l)
    (range_next n (a + 1) ∙ ap (λ (x : ℕ). range_with_len (a + 1) n ++ x ∷ []) e)

range_more : (a n : ℕ) → range_with_len a (n + 1) ≡ range_with_len a n ++ (a + n) ∷ []
range_more a n = let e : n + 1 ≡ suc n = omega arith in ap (range_with_len a) e ∙ range_next n a

-- ---- each number of a range

module _ (said : ℕ → List ℕ) (a n : ℕ) where
  -- one more is said
  pub said_more : (start was now : List ℕ) → was ≡ start ++ flat_map said (range_with_len a n)
      → now ≡ was ++ said (a + n) → now ≡ start ++ flat_map said (range_with_len a (n + 1))
  said_more start was now before added = added ∙ ap (λ (l : List ℕ). l ++ said (a + n)) before
      ∙ append_assoc start (flat_map said (range_with_len a n)) (said (a + n))
      ∙ ap (λ (l : List ℕ). start ++ l) (sym next)
    where
      next : flat_map said (range_with_len a (n + 1)) ≡ flat_map said (range_with_len a n) ++ said (a + n)
      next = ap (flat_map said) (range_more a n) ∙ flat_map-append said (range_with_len a n) ((a + n) ∷ [])
          ∙ ap (λ (l : List ℕ). flat_map said (range_with_len a n) ++ l) (append-nil (said (a + n)))

-- the same from 0 on
pub said_next : (said : ℕ → List ℕ) (n : ℕ) (start was now : List ℕ)
    → was ≡ start ++ flat_map said (range_with_len 0 n) → now ≡ was ++ said n
    → now ≡ start ++ flat_map said (range_with_len 0 (n + 1))
said_next said n start was now before added =
    let none : n ≡ 0 + n = omega arith in
    said_more said 0 n start was now before (added ∙ ap (λ (k : ℕ). was ++ said k) none)

-- ---- those that pass a test

module _ (test : ℕ → Bool) (n : ℕ) where
  abbrev more : List ℕ
  more = if test n then n ∷ [] else []

  passed_more : filter test (range_with_len 0 (n + 1)) ≡ filter test (range_with_len 0 n) ++ more
  passed_more = ap (filter test) (range_more 0 n) ∙ filter-append test (range_with_len 0 n) ((0 + n) ∷ [])
      ∙ ap (λ (k : ℕ). filter test (range_with_len 0 n) ++ (if test k then k ∷ [] else [])) none
    where
      none : 0 + n ≡ n
      none = omega arith

  -- one more is counted, if it passes
  pub count_more : (was add : ℕ) → was ≡ length (filter test (range_with_len 0 n)) → add ≡ (if test n then 1 else 0)
      → was + add ≡ length (filter test (range_with_len 0 (n + 1)))
  count_more was add before one =
      let all = ap length passed_more ∙ length-append (filter test (range_with_len 0 n)) more in
      let same = by_test (test n) in
      omega (arith, before, one, all, same)
    where
      by_test : (b : Bool) → length (if b then n ∷ [] else []) ≡ (if b then 1 else 0)
      by_test true = refl
      by_test false = refl

  -- one more is said, if it passes
  pub told_more : (said : ℕ → List ℕ) (start was now : List ℕ)
      → was ≡ start ++ flat_map said (filter test (range_with_len 0 n))
      → now ≡ was ++ (if test n then said n else [])
      → now ≡ start ++ flat_map said (filter test (range_with_len 0 (n + 1)))
  told_more said start was now before added = added ∙ ap (λ (l : List ℕ). l ++ last) before
      ∙ append_assoc start so_far last ∙ ap (λ (l : List ℕ). start ++ l) (sym next)
    where
      so_far : List ℕ
      so_far = flat_map said (filter test (range_with_len 0 n))

      last : List ℕ
      last = if test n then said n else []

      by_test : (b : Bool) → flat_map said (if b then n ∷ [] else []) ≡ (if b then said n else [])
      by_test true = append-nil (said n)
      by_test false = refl

      next : flat_map said (filter test (range_with_len 0 (n + 1))) ≡ so_far ++ last
      next = ap (flat_map said) passed_more ∙ flat_map-append said (filter test (range_with_len 0 n)) more
          ∙ ap (λ (l : List ℕ). so_far ++ l) (by_test (test n))
