-- A text that is read up to its bound. (Own.)
use Rattle.std.proofs.Common.{◌≡◌, ℕ, ◌+◌, ◌<◌, ◌≤◌, List, length, take, IfSome, Some, None, Option, ap, ◌∙◌, inl, inr}
use Rattle.std.proofs.Common.{arith, length-take, length-take-le, take_all}
use Rattle.std.proofs.lemmas.Bool.{cases_lt}

-- at most n + 1 bytes were read, and there are at most n: these are all of the text
pub read_whole : (o : Option (List ℕ)) (text : List ℕ) (most : ℕ) → IfSome o (λ xs. text ≡ take (most + 1) xs)
    → length text ≤ most → IfSome o (λ xs. text ≡ xs)
read_whole None text most is few = tt
read_whole (Some xs) text most is few = elim (cases_lt most (length xs)) [
  | inl more ↦
      let long : length (take (most + 1) xs) ≡ most + 1 = length-take-le (most + 1) xs (omega arith) in
      absurd (omega (arith, few, ap length is, long))
  | inr within ↦ is ∙ take_all (most + 1) xs (omega arith)
]

-- and more than n bytes are part of a longer text
pub read_more : (o : Option (List ℕ)) (text : List ℕ) (most : ℕ) → IfSome o (λ xs. text ≡ take (most + 1) xs)
    → most < length text → IfSome o (λ xs. most < length xs)
read_more None text most is more = tt
read_more (Some xs) text most is more = omega (arith, more, ap length is, length-take (most + 1) xs)
