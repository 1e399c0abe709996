-- Moments with one number are the same.
use Rattle.std.proofs.Common.{◌≡◌, ℕ, zero, suc, ◌+◌, Bool, true, false, List, [], ◌∷◌, sym, refl, ap, arith}
use Rattle.im_disk.specs.Moment.{Moment}
use Rattle.im_listed.specs.Numbers.{bytes_number, moment_number, pair, ranges_number, told_number}

pair_some : (a b : ℕ) → pair a b ≡ 0 → ⊥
pair_some zero b e = absurd (omega arith)
pair_some (suc a) b e = pair_some a b (omega arith)

pair_same : (a b c d : ℕ) → pair a b ≡ pair c d → (a ≡ c) × (b ≡ d)
pair_same zero b zero d e = (refl, omega arith)
pair_same zero b (suc c) d e = absurd (omega arith)
pair_same (suc a) b zero d e = absurd (omega arith)
pair_same (suc a) b (suc c) d e =
    let half : pair a b ≡ pair c d = omega arith in
    let rest = pair_same a b c d half in
    (ap suc rest.0, rest.1)

bytes_same : (bs cs : List ℕ) → bytes_number bs ≡ bytes_number cs → bs ≡ cs
bytes_same [] [] e = refl
bytes_same [] (c ∷ cs) e = absurd (pair_some c (bytes_number cs) (sym e))
bytes_same (b ∷ bs) [] e = absurd (pair_some b (bytes_number bs) e)
bytes_same (b ∷ bs) (c ∷ cs) e =
    let parts = pair_same b (bytes_number bs) c (bytes_number cs) e in
    let first = parts.0 in
    let rest = bytes_same bs cs parts.1 in
    (λ i. first i ∷ rest i)

ranges_same : (rs ss : List (ℕ × ℕ)) → ranges_number rs ≡ ranges_number ss → rs ≡ ss
ranges_same [] [] e = refl
ranges_same [] (s ∷ ss) e = absurd (pair_some s.0 (pair s.1 (ranges_number ss)) (sym e))
ranges_same (r ∷ rs) [] e = absurd (pair_some r.0 (pair r.1 (ranges_number rs)) e)
ranges_same (r ∷ rs) (s ∷ ss) e =
    let parts = pair_same r.0 (pair r.1 (ranges_number rs)) s.0 (pair s.1 (ranges_number ss)) e in
    let place = parts.0 in
    let later = pair_same r.1 (ranges_number rs) s.1 (ranges_number ss) parts.1 in
    let size = later.0 in
    let rest = ranges_same rs ss later.1 in
    (λ i. (place i, size i) ∷ rest i)

moment_same : (m n : Moment) → moment_number m ≡ moment_number n → m ≡ n
moment_same m n e =
    let parts = pair_same (bytes_number m.bytes) (ranges_number m.ranges) (bytes_number n.bytes)
    (ranges_number n.ranges) e in
    let bytes = bytes_same m.bytes n.bytes parts.0 in
    let ranges = ranges_same m.ranges n.ranges parts.1 in
    (λ i. record { bytes = bytes i; ranges = ranges i })

halves : (a b : ℕ) → a + a ≡ b + b → a ≡ b
halves a b e = omega arith

odd : (a b : ℕ) → a + a ≡ b + b + 18446744073709551617 → ⊥
odd a b e = omega arith

above : (a b : ℕ) → a + a + 18446744073709551617 ≡ b + b + 18446744073709551617 → a ≡ b
above a b e = omega arith

pub told_same : (b c : Bool) (m n : Moment) → told_number b m ≡ told_number c n → m ≡ n
told_same false false m n e = moment_same m n (halves (moment_number m) (moment_number n) e)
told_same false true m n e = absurd (odd (moment_number m) (moment_number n) e)
told_same true false m n e = absurd (odd (moment_number n) (moment_number m) (sym e))
told_same true true m n e = moment_same m n (above (moment_number m) (moment_number n) e)
