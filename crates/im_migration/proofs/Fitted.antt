-- A list cut or lengthened to another number of elements.
use Rattle.std.proofs.Common.{◌≡◌, ℕ, zero, suc, ◌+◌, ◌<◌, ◌≤◌, List, [], ◌∷◌, ◌++◌, length, get_or, sym, refl, ap, ◌∙◌}
use Rattle.std.proofs.Common.{⊎_elim, arith}
use Rattle.std.proofs.lemmas.{Bool.cases_lt, List.get_or_past}
use Rattle.im_migration.specs.Resizing.{fitted}

module _ {X : Type 0} (none : X) where
  pub length-fitted : (n : ℕ) (xs : List X) → length (fitted none n xs) ≡ n
  length-fitted zero xs = refl
  length-fitted (suc n) [] = ap suc (length-fitted n [])
  length-fitted (suc n) (x ∷ xs) = ap suc (length-fitted n xs)

  pub fitted-below : (n : ℕ) (xs : List X) (i : ℕ) → i < n → get_or (fitted none n xs) i none ≡ get_or xs i none
  fitted-below zero xs i lt = absurd (omega (arith, lt))
  fitted-below (suc n) [] zero lt = refl
  fitted-below (suc n) [] (suc i) lt = fitted-below n [] i (omega (arith, lt))
  fitted-below (suc n) (x ∷ xs) zero lt = refl
  fitted-below (suc n) (x ∷ xs) (suc i) lt = fitted-below n xs i (omega (arith, lt))

  -- if nothing else is cut off
  pub fitted-at : (n : ℕ) (xs : List X) → ((i : ℕ) → n ≤ i → get_or xs i none ≡ none) → (i : ℕ)
      → get_or (fitted none n xs) i none ≡ get_or xs i none
  fitted-at n xs past i = ⊎_elim
      (λ (lt : i < n). fitted-below n xs i lt)
      (λ (from : n ≤ i). get_or_past (fitted none n xs) i none (omega (arith, length-fitted n xs, from))
      ∙ sym (past i from))
      (cases_lt i n)

  fitted-suc : (n : ℕ) (xs : List X) → fitted none (suc n) xs ≡ fitted none n xs ++ get_or xs n none ∷ []
  fitted-suc zero [] = refl
  fitted-suc zero (x ∷ xs) = refl
  fitted-suc (suc n) [] = ap (λ (l : List X). none ∷ l) (fitted-suc n [])
  fitted-suc (suc n) (x ∷ xs) = ap (λ (l : List X). x ∷ l) (fitted-suc n xs)

  pub fitted-more : (n : ℕ) (xs : List X) → fitted none (n + 1) xs ≡ fitted none n xs ++ get_or xs n none ∷ []
  fitted-more n xs = let same : n + 1 ≡ suc n = omega arith in
      ap (λ (k : ℕ). fitted none k xs) same ∙ fitted-suc n xs
