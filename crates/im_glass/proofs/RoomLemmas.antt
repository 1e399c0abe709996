-- A pane that isn't filled has room for one change more.
use Rattle.std.proofs.Common.{◌≡◌, ℕ, ◌^◌, ◌<◌, Bool, true, false, if◌then◌else◌, nat_lt, nat_le, refl, arith}
use Rattle.std.proofs.lemmas.Bool.Decides.{nat_tests}
use Rattle.im_glass.specs.Panes.{is_filled}

pub not-filled : (ahead shown : ℕ) → is_filled ahead shown ≡ false → (ahead < 16) × (shown < 2 ^ 61)
not-filled ahead shown e = by_test (nat_lt ahead 16) refl e
  where
    by_test : (b : Bool) → nat_lt ahead 16 ≡ b → (if b then nat_le (2 ^ 61) shown else true) ≡ false
        → (ahead < 16) × (shown < 2 ^ 61)
    by_test true less e = (grind (arith, nat_tests), grind (arith, nat_tests))
    by_test false less e = absurd (cc (e))
