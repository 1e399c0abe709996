-- What it means that bytes are the same as a spelling.
use Rattle.std.proofs.Common.{◌≡◌, ℕ, Bool, true, false, ◌&&◌, List, [], ◌∷◌, if◌then◌else◌, nat_eq, Some, None, Option}
use Rattle.std.proofs.Common.{option_and_then, refl, ap, ◌∙◌, arith}
use Rattle.std.{proofs.lemmas.Bool.Decides.nat_tests, specs.Cmp.Lexicographic.pointwise}
use Rattle.im_types.specs.Types.{same_bytes}

eqb_self : (n : ℕ) → nat_eq n n ≡ true
eqb_self n = grind (arith, nat_tests)

pub same_bytes_self : (xs : List ℕ) → same_bytes xs xs ≡ true
same_bytes_self [] = refl
same_bytes_self (x ∷ xs) = ap (λ (b : Bool). b && pointwise nat_eq xs xs) (eqb_self x) ∙ same_bytes_self xs

pub both_true : (a b : Bool) → (a && b) ≡ true → (a ≡ true) × (b ≡ true)
both_true true true e = (refl, refl)
both_true true false e = cc
both_true false b e = cc

eqb_true : (m n : ℕ) → nat_eq m n ≡ true → m ≡ n
eqb_true m n e = grind (arith, nat_tests)

pub same_bytes_true : (xs ys : List ℕ) → same_bytes xs ys ≡ true → xs ≡ ys
same_bytes_true [] [] e = refl
same_bytes_true [] (y ∷ ys) e = cc
same_bytes_true (x ∷ xs) [] e = cc
same_bytes_true (x ∷ xs) (y ∷ ys) e =
    let both = both_true (nat_eq x y) (pointwise nat_eq xs ys) e in
    let head : x ≡ y = eqb_true x y both.0 in
    let rest : xs ≡ ys = same_bytes_true xs ys both.1 in
    cc

module _ {X : Type 0} where
  pub if_same : (xs : List ℕ) (x : X) → (if same_bytes xs xs then Some x else None) ≡ Some x
  if_same xs x = ap (λ (b : Bool). if b then Some x else None) (same_bytes_self xs)

  by_test : (bytes spelled : List ℕ) (x y : X) (b : Bool) → same_bytes bytes spelled ≡ b
      → (if b then Some x else None) ≡ Some y → (x ≡ y) × (bytes ≡ spelled)
  by_test bytes spelled x y true same e = (cc, same_bytes_true bytes spelled same)
  by_test bytes spelled x y false same e = cc

  -- what reads is what was compared
  pub spelled_if : (bytes spelled : List ℕ) (x y : X) → (if same_bytes bytes spelled then Some x else None) ≡ Some y
      → (x ≡ y) × (bytes ≡ spelled)
  spelled_if bytes spelled x y e = by_test bytes spelled x y (same_bytes bytes spelled) refl e

  -- a reading by the candidate of the fields gives only what its bytes spell
  pub only_spelled : (bytes : List ℕ) (spelling : X → List ℕ) (candidate : Option X) (x : X)
      → option_and_then (λ y. if same_bytes bytes (spelling y) then Some y else None) candidate ≡ Some x → bytes
      ≡ spelling x
  only_spelled bytes spelling None x e = cc
  only_spelled bytes spelling (Some y) x e =
      let both = spelled_if bytes (spelling y) y x e in
      both.1 ∙ ap spelling both.0
