-- Cases of tests, for the proofs of every crate.
use Rattle.std.proofs.Common.{◌≡◌, ℕ, Bool, true, false, ◌&&◌, ◌==◌, refl, arith}
use Rattle.std.proofs.lemmas.Bool.Decides.{nat_tests}

pub true_false : true ≡ false → ⊥
true_false e = cc

pub false_true : false ≡ true → ⊥
false_true e = cc

-- two tests that hold together hold each
pub and_both : (a b : Bool) → (a && b) ≡ true → (a ≡ true) × (b ≡ true)
and_both true b e = (refl, e)
and_both false b e = absurd (cc)

-- two numbers that a test tells apart
pub differ : (a b : ℕ) → (a == b) ≡ false → a ≡ b → ⊥
differ a b other same = grind (arith, nat_tests)
