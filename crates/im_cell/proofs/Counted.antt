-- How many cells of a block are waited for.
use Rattle.std.proofs.Common.{◌≡◌, ℕ, zero, suc, ◌+◌, ◌-◌, ◌<◌, ◌≤◌, Bool, true, false, cond, not, ◌||◌, ◌≢◌, List, []}
use Rattle.std.proofs.Common.{◌∷◌, length, get_or, take, drop, is_none, Some, None, Option, option_map, sym, refl, ap}
use Rattle.std.proofs.Common.{◌∙◌, inl, inr, arith, length-drop, get_or-drop}
use Rattle.std.{proofs.lemmas.Bool.cases_eq, proofs.Math.Bool.beq, specs.List.list_any}
use Rattle.{im_types.specs.Types.begins_free, im_types.specs.Types.place, im_laws.proofs.Tests.true_false}
use Rattle.im_cell.specs.Table.{count_from, one_if}

-- two truth values that are told apart
pub differ-yes : (a b : Bool) → not (beq a b) ≡ true → b ≡ a → ⊥
differ-yes true true e s = true_false (sym e)
differ-yes true false e s = true_false (sym s)
differ-yes false true e s = true_false s
differ-yes false false e s = true_false (sym e)

pub differ-no : (a b : Bool) → not (beq a b) ≡ false → a ≡ b
differ-no true true e = refl
differ-no true false e = absurd (true_false e)
differ-no false true e = absurd (true_false e)
differ-no false false e = refl

-- two tests that agree on the cells count the same
pub count-same : (f g : ℕ → Bool) (n base : ℕ) → ((k : ℕ) → base ≤ k → k < base + n → f k ≡ g k)
    → count_from f n base ≡ count_from g n base
count-same f g zero base same = refl
count-same f g (suc n) base same =
    ap (λ b. one_if b + count_from f n (suc base)) (same base (omega arith) (omega arith))
    ∙ ap (λ m. one_if (g base) + m) (count-same f g n (suc base) (λ k lo hi. same k (omega arith) (omega arith)))

-- where nothing passes, none is counted
pub count-none : (f : ℕ → Bool) (n base : ℕ) → ((k : ℕ) → base ≤ k → k < base + n → f k ≡ false)
    → count_from f n base ≡ 0
count-none f zero base none = refl
count-none f (suc n) base none =
    let b : one_if (f base) ≡ 0 = ap one_if (none base (omega arith) (omega arith)) in
    let m = count-none f n (suc base) (λ k lo hi. none k (omega arith) (omega arith)) in omega arith

-- there are no more than cells
one_if-few : (b : Bool) → one_if b ≤ 1
one_if-few true = omega arith
one_if-few false = omega arith

pub count-few : (f : ℕ → Bool) (n base : ℕ) → count_from f n base ≤ n
count-few f zero base = omega arith
count-few f (suc n) base = let m = count-few f n (suc base) in let b = one_if-few (f base) in omega arith

-- where none is counted, nothing passes
one_if-none : (b : Bool) → one_if b ≡ 0 → b ≡ false
one_if-none true e = absurd (omega arith)
one_if-none false e = refl

pub none-counted : (f : ℕ → Bool) (n base : ℕ) → count_from f n base ≡ 0 → (k : ℕ) → base ≤ k → k < base + n → f k
    ≡ false
none-counted f zero base e k lo hi = absurd (omega arith)
none-counted f (suc n) base e k lo hi = elim (cases_eq k base) [
  | inl here ↦ ap f here ∙ one_if-none (f base) (omega arith)
  | inr other ↦ none-counted f n (suc base) (omega arith) k (omega arith) (omega arith)
]

-- one cell more passes
pub count-more : (f g : ℕ → Bool) (n base a : ℕ) → base ≤ a → a < base + n → f a ≡ false → g a ≡ true
    → ((k : ℕ) → k ≢ a → f k ≡ g k) → count_from g n base ≡ suc (count_from f n base)
count-more f g zero base a lo hi off on others = absurd (omega arith)
count-more f g (suc n) base a lo hi off on others = elim (cases_eq base a) [
  | inl here ↦
      let s = count-same f g n (suc base) (λ k lo hi. others k (λ e. omega arith)) in
      let one : one_if (g base) ≡ 1 = ap one_if (ap g here ∙ on) in
      let none : one_if (f base) ≡ 0 = ap one_if (ap f here ∙ off) in omega arith
  | inr other ↦
      let s : one_if (f base) ≡ one_if (g base) = ap one_if (others base other) in
      let m = count-more f g n (suc base) a (omega arith) (omega arith) off on others in omega arith
]

module _ {X : Type 0} (p : Option X → Bool) where
  -- none of the first cells passes a test
  any-none : (n : ℕ) (xs : List (Option X)) → ((k : ℕ) → k < n → k < length xs → p (get_or xs k None) ≡ false)
      → list_any p (take n xs) ≡ false
  any-none zero xs none = refl
  any-none (suc n) [] none = refl
  any-none (suc n) (x ∷ xs) none = ap (λ b. b || list_any p (take n xs)) (none 0 (omega arith) (omega arith))
      ∙ any-none n xs (λ k less inside. none (suc k) (omega arith) (omega arith))

  -- one of them does
  any-some : (n : ℕ) (xs : List (Option X)) (k : ℕ) → k < n → k < length xs → p (get_or xs k None) ≡ true
      → list_any p (take n xs) ≡ true
  any-some zero xs k less inside e = absurd (omega arith)
  any-some (suc n) [] k less inside e = absurd (omega arith)
  any-some (suc n) (x ∷ xs) zero less inside e = ap (λ b. b || list_any p (take n xs)) e
  any-some (suc n) (x ∷ xs) (suc k) less inside e = ap (λ b. p x || b)
      (any-some n xs k (omega arith) (omega arith) e) ∙ either (p x)
    where
      either : (b : Bool) → b || true ≡ true
      either true = refl
      either false = refl

  -- the same of so many cells from one on
  pub none-within : (base n : ℕ) (xs : List (Option X))
      → ((k : ℕ) → base ≤ k → k < base + n → p (get_or xs k None) ≡ false) → list_any p (take n (drop base xs)) ≡ false
  none-within base n xs none = any-none n (drop base xs)
      (λ k less inside. ap p (get_or-drop base xs k None) ∙ none (base + k) (omega arith) (omega arith))

  pub some-within : (base n : ℕ) (xs : List (Option X)) (k : ℕ) → base ≤ k → k < base + n → k < length xs
      → p (get_or xs k None) ≡ true → list_any p (take n (drop base xs)) ≡ true
  some-within base n xs k from upto inside e =
      any-some n (drop base xs) (k - base) (omega arith) (omega (arith, length-drop base xs))
      (ap p (get_or-drop base xs (k - base) None
      ∙ ap (λ i. get_or xs i None) (let f : base + (k - base) ≡ k = omega arith in f)) ∙ e)

-- two lists whose cells are free at the same places have the same place for a block
module _ {X Y : Type 0} where
  begins-like : (n : ℕ) (xs : List (Option X)) (ys : List (Option Y)) → length xs ≡ length ys
      → ((k : ℕ) → is_none (get_or xs k None) ≡ is_none (get_or ys k None)) → begins_free n xs ≡ begins_free n ys
  begins-like zero xs ys long like = refl
  begins-like (suc n) [] [] long like = refl
  begins-like (suc n) [] (y ∷ ys) long like = absurd (omega arith)
  begins-like (suc n) (x ∷ xs) [] long like = absurd (omega arith)
  begins-like (suc n) (None ∷ xs) (None ∷ ys) long like = begins-like n xs ys (omega arith) (λ k. like (suc k))
  begins-like (suc n) (None ∷ xs) (Some y ∷ ys) long like = absurd (true_false (like 0))
  begins-like (suc n) (Some x ∷ xs) (None ∷ ys) long like = absurd (true_false (sym (like 0)))
  begins-like (suc n) (Some x ∷ xs) (Some y ∷ ys) long like = refl

  pub place-like : (n : ℕ) (xs : List (Option X)) (ys : List (Option Y)) → length xs ≡ length ys
      → ((k : ℕ) → is_none (get_or xs k None) ≡ is_none (get_or ys k None)) → place n xs ≡ place n ys
  place-like n [] [] long like = refl
  place-like n [] (y ∷ ys) long like = absurd (omega arith)
  place-like n (x ∷ xs) [] long like = absurd (omega arith)
  place-like n (x ∷ xs) (y ∷ ys) long like =
      ap (λ b. cond b (Some 0) (option_map suc (place n xs))) (begins-like n (x ∷ xs) (y ∷ ys) long like)
      ∙ ap (λ o. cond (begins_free n (y ∷ ys)) (Some 0) (option_map suc o))
      (place-like n xs ys (omega arith) (λ k. like (suc k)))
